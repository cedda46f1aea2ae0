-- A list of instructions cut into changesets.
use Rattle.std.specs.Prelude.{Bool, List, [], ◌∷◌, ◌++◌, if◌then◌else◌}

-- a part, if there is anything in it
abbrev pub closed : {I : Type 0} → List I → List (List I) → List (List I)
closed [] parts = parts
closed (i ∷ is) parts = (i ∷ is) ∷ parts

-- each part is the longest beginning of the rest that is within the limits; this one so far
abbrev pub cut_after : {I : Type 0} → (List I → Bool) → List I → List I → List (List I)
cut_after small part [] = closed part []
cut_after small part (i ∷ is) = if small (part ++ i ∷ []) then cut_after small (part ++ i ∷ []) is else closed part (cut_after small (i ∷ []) is)

-- a list of instructions as changesets
abbrev pub cut : {I : Type 0} → (List I → Bool) → List I → List (List I)
cut small is = cut_after small [] is
