-- The places of a document, and how they are written.
use Rattle.std.specs.Prelude.{List, [], codes, decimal, take, ℕ, ◌++◌, ◌∷◌}
use Rattle.gt_documents.specs.declared.place.Step.{Step}
use Rattle.gt_documents.specs.declared.place.Step.TheVariants.{Item, Member}

-- a place: the steps to it, from the outermost on
abbrev pub Place : Type 0
Place = List Step

-- the member of this name
abbrev pub member_place : List ℕ → Place
member_place name = Member name ∷ []

-- a query as a whole
abbrev pub query_place : Place
query_place = member_place (codes "query")

-- the place behind one more step; four steps at most are told
abbrev pub under : Step → Place → Place
under step place = take 4 (step ∷ place)

-- the place in an item of the list, counted from 0
abbrev pub in_item : List ℕ → ℕ → Place → Place
in_item list at place = under (Member list) (under (Item at) place)

-- how the steps behind the first are written
abbrev pub steps_text : Place → List ℕ
steps_text [] = []
steps_text (Member name ∷ steps) = codes "." ++ name ++ steps_text steps
steps_text (Item at ∷ steps) = codes "[" ++ decimal at ++ codes "]" ++ steps_text steps

-- how a place is written; that without a step is the whole body
abbrev pub place_text : Place → List ℕ
place_text [] = codes "body"
place_text (Member name ∷ steps) = name ++ steps_text steps
place_text (Item at ∷ steps) = codes "[" ++ decimal at ++ codes "]" ++ steps_text steps
