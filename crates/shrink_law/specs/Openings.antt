-- Files without a short front, and what opening accepts of them: what it accepted before there were short files.
use Rattle.std.specs.Prelude.{ℕ, suc, Bool, true, false, ◌&&◌, not, List, [], ◌∷◌, Option, Some, None, nat_lt, ◌==◌, map, length}
use Rattle.sync_model.specs.Profile.{Profile}
use Rattle.sync_model.specs.Snapshots.{grown}
use Rattle.sync_model.specs.Clients.{Client, ClientRecord, Born, Named, Made, Took, Form, Subset, Part, Floor, is_late, after_record, entry_refusal}
use Rattle.sync_model.specs.Worlds.{is_there}
use Rattle.sync_model.specs.Files.{is_fine, is_empty, is_blank, readable, read_parts, bodies_ahead, parts_grow, made_acts}

-- the parts with which a file began aren't complete yet
abbrev pub has_parts : {I S : Type 0} → Client I S → Bool
has_parts c = not (is_empty c.parts) && not (is_there c.floor)

module _ {I S : Type 0} (p : Profile I S) where
  -- a part of a state that the form allows
  abbrev pub long_part : Client I S → List (Option ClientRecord) → Option (List I) → Bool
  long_part c ahead None = false
  long_part c ahead (Some is) = parts_grow p c.parts is (read_parts p c.second (bodies_ahead p ahead))

  -- after these records a client would write this one before those that are ahead
  abbrev pub long_admits : Client I S → List (Option ClientRecord) → ClientRecord → Bool
  long_admits c ahead (Born id) = not (is_there c.id)
  long_admits c ahead (Named ident) = is_there c.id && (not (has_parts c) && ((c.ident == 0) && not (ident == 0)))
  long_admits c ahead (Made number ms body) = is_there c.id && (not (has_parts c) && ((number == suc (length c.made)) && made_acts p c (p.unspell body)))
  long_admits c ahead (Took origin number ms body) = not (c.ident == 0) && (nat_lt c.cursor p.full && (not (origin == 0) && (not (number == 0) && not (is_there (entry_refusal p c (record { origin = origin; number = number; ms = ms; body = body }))))))
  long_admits c ahead Form = is_there c.id && (not (has_parts c) && not c.second)
  long_admits c ahead (Subset tables) = is_there c.id && (not (has_parts c) && (not (is_there c.subset) && not (is_late c)))
  long_admits c ahead (Part body) = is_blank c && (not (is_empty ahead) && long_part c ahead (readable p c.second (p.unspell body)))
  long_admits c ahead (Floor version) = is_blank c && is_fine (grown p c.parts)
  long_admits c ahead r = false

  -- opening accepts these records after the ones before
  abbrev pub long_opens : Client I S → List ClientRecord → Bool
  long_opens c [] = true
  long_opens c (r ∷ rs) = long_admits c (map (λ q. Some q) rs) r && long_opens (after_record p c r) rs
