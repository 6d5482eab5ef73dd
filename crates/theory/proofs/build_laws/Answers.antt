use Rattle.theory.specs.Reference.{built_of}
use Rattle.theory.proofs.Askings.{honest_few}
use Rattle.theory.proofs.Builds.{build_honest, build_one, build_within, cut_short, second_none}
use Rattle.theory.proofs.Reference.{reference_fits}
use Rattle.theory.proofs.build_laws.Goals as goal

pub returns : goal.returns
returns c =
    record {
      one_build = λ d es room k o o' ran ran' fs fs' b b'. build_one b b';
      second_runs_nothing = λ d es fs gs room k o o' ran ran' b fits again. second_none b fits again;
      cut_short = λ d i m k v es fs gs room o o' ran ran' j b fits old new again member. cut_short b fits i m v old new again member;
      stays_honest = λ d es fs room k o ran honest b. build_honest b honest;
      stays_within = λ d es fs room k o ran few b. build_within b few;
      few_askings = honest_few;
      builds_exist = λ d es room k. let b = built_of d es room k in (b.answer, b.ran, b.store, reference_fits d es k room);
      reference_fits = λ d es room k. reference_fits d es k room;
    }
