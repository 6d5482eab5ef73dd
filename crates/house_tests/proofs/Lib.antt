pub mod Anew
pub mod Lending
pub mod Refusing
