-- The refusals of a client as numbers.
use Rattle.std.specs.Prelude.{ℕ, List, ◌∷◌, ◌++◌}
use Rattle.std.specs.Int.{w32, to_le_bytes}
use Rattle.sync_model.specs.Clients.{ClientRefusal}
use Rattle.sync_host.specs.declared.refusals.Declined.{Declined}

abbrev pub plain : ℕ → Declined
plain number = record { number = number; first = 0; second = 0; third = 0 }

abbrev of_one : ℕ → ℕ → Declined
of_one number first = record { number = number; first = first; second = 0; third = 0 }

abbrev pub of_two : ℕ → ℕ → ℕ → Declined
of_two number first second = record { number = number; first = first; second = second; third = 0 }

abbrev pub of_three : ℕ → ℕ → ℕ → ℕ → Declined
of_three number first second third = record { number = number; first = first; second = second; third = third }

abbrev pub declined : ClientRefusal → Declined
declined ClientRefusal.NotBorn = plain 1
declined ClientRefusal.AlreadyBorn = plain 2
declined ClientRefusal.NotNamed = plain 3
declined ClientRefusal.TooLarge = plain 4
declined ClientRefusal.NumbersFull = plain 5
declined (ClientRefusal.OldForm place) = of_one 6 place
declined (ClientRefusal.NotSubscribed place) = of_one 7 place
declined (ClientRefusal.Break place code) = of_two 8 place code
declined ClientRefusal.NotMine = plain 9
declined (ClientRefusal.IdentDiffers kept got) = of_two 10 kept got
declined (ClientRefusal.Gap cursor from) = of_two 11 cursor from
declined (ClientRefusal.BadBody version offset rule) = of_three 12 version offset rule
declined (ClientRefusal.OldEntry version) = of_one 13 version
declined (ClientRefusal.Mismatch version number kind) = of_three 14 version number kind
declined (ClientRefusal.Forked number) = of_one 15 number
declined (ClientRefusal.NotApplicable version place code) = of_three 16 version place code
declined (ClientRefusal.WasRefused number code) = of_two 17 number code
declined ClientRefusal.Subscribed = plain 18
declined ClientRefusal.TooLate = plain 19

-- the number, and three more of four bytes, the lowest first
abbrev pub declined_bytes : Declined → List ℕ
declined_bytes d = d.number ∷ (to_le_bytes w32 d.first ++ (to_le_bytes w32 d.second ++ to_le_bytes w32 d.third))
