mod Shapes
mod GroundLemmas
mod CallLemmas
mod MakesLemmas
