mod Sofar
