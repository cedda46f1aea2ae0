-- One stroke more of a gathered disk.
use Rattle.std.proofs.Common.{◌≡◌, inl, inr, ℕ, ◌≤◌, Bool, true, false, List, [], ◌∷◌, ◌++◌, length, Option, None, Some, Result, Ok, Err, OnOk, OnErr, refl, sym, ◌∙◌, ap, subst, arith, length-append}
use Rattle.sync_disk.specs.Disk.{Becomes, Elapses, Follows, Only, Told, Torn, Within}
use Rattle.sync_disk.specs.Strokes.{Act, Stroke, done}
use Rattle.sync_disk.specs.Strokes.Act.{Write, Sync}
use Rattle.sync_disk.specs.Images.{acted}
use Rattle.sync_disk.specs.declared.refusal.DiskRefusal.{DiskRefusal}
use Rattle.sync_disk.specs.declared.refusal.DiskRefusal.TheVariants.{Failed}
use Rattle.sync_disk.proofs.Tearing.{content_push, elapses_push, sync_only, sync_within, write_follows}
use Rattle.gathered_disk.specs.Gathered.{images_of, images_since_of, shown}

same_some : {x y : List ℕ} → Some x ≡ Some y → x ≡ y
same_some e = cc

-- what is shown
pub shows_more : (closed : Bool) (told : Option (List ℕ)) (old new : List Stroke) (act : Act) (b : List ℕ) → new ≡ old ++ done act ∷ [] → shown closed told old ≡ Some b → shown closed told new ≡ Some (acted b act false)
shows_more true told old new act b is was = absurd (cc was)
shows_more false None old new act b is was = absurd (cc was)
shows_more false (Some base) old new act b is was = ap Some (content_push base old (done act) new is ∙ ap (λ (l : List ℕ). acted l act false) (same_some was))

pub becomes : {T : Type 0} (closed : Bool) (told : Option (List ℕ)) (old new : List Stroke) (act : Act) (b : List ℕ) (r : Result T DiskRefusal) → OnOk r (new ≡ old ++ done act ∷ []) → OnErr r (new ≡ old) → (r ≡ Err Failed → ⊥)
    → shown closed told old ≡ Some b → Becomes b (acted b act false) r (shown closed told new)
becomes closed told old new act b (Ok x) is same not_failed was =
    let now = shows_more closed told old new act b is was in
    record { done = now; refused = λ e. absurd (cc e); told = (_, now) }
becomes closed told old new act b (Err e) is same not_failed was =
    let now = ap (shown closed told) same ∙ was in
    record { done = tt; refused = λ is. now; told = (_, now) }

-- what a crash leaves
follows_done : (told : Option (List ℕ)) (closed : Bool) (old new : List Stroke) (place : ℕ) (bytes : List ℕ) → closed ≡ false → new ≡ old ++ done (Write place bytes) ∷ []
    → Told (shown closed told old) (λ b. place ≤ length b) → Follows (Torn place (length bytes)) (images_of told old) (images_of told new)
follows_done None closed old new place bytes still is within = λ c any. (c, tt, record { before = refl; after = refl; no_shorter = omega arith; no_longer = omega arith })
follows_done (Some base) true old new place bytes still is within = absurd (cc still)
follows_done (Some base) false old new place bytes still is within = write_follows base old (done (Write place bytes)) new _ place bytes is refl refl (within _ refl)

pub follows : {T : Type 0} (told : Option (List ℕ)) (closed : Bool) (old new : List Stroke) (place : ℕ) (bytes : List ℕ) (r : Result T DiskRefusal) → OnOk r (closed ≡ false) → OnOk r (new ≡ old ++ done (Write place bytes) ∷ []) → OnErr r (new ≡ old)
    → Told (shown closed told old) (λ b. place ≤ length b) → Follows (Torn place (length bytes)) (images_of told old) (images_of told new)
follows told closed old new place bytes (Ok x) still is same within = follows_done told closed old new place bytes still is within
follows told closed old new place bytes (Err e) still is same within =
    λ c left. (c, subst (λ (l : List Stroke). images_of told l c) same left, record { before = refl; after = refl; no_shorter = omega arith; no_longer = omega arith })

elapses_done : (told : Option (List ℕ)) (old new : List Stroke) (act : Act) → new ≡ old ++ done act ∷ [] → Elapses (length old) (length new) (images_since_of told old) (images_since_of told new) (images_of told new)
elapses_done None old new act is = record { later = omega (arith, ap length is, length-append old (done act ∷ [])); nothing_else = λ t c le left. inr tt; keeps = λ t c le left. tt }
elapses_done (Some base) old new act is = elapses_push base old (done act) new is

pub elapses : {T : Type 0} (told : Option (List ℕ)) (old new : List Stroke) (act : Act) (r : Result T DiskRefusal) → OnOk r (new ≡ old ++ done act ∷ []) → OnErr r (new ≡ old)
    → Elapses (length old) (length new) (images_since_of told old) (images_since_of told new) (images_of told new)
elapses told old new act (Ok x) is same = elapses_done told old new act is
elapses told old new act (Err e) is same =
    subst (λ (l : List Stroke). Elapses (length old) (length l) (images_since_of told old) (images_since_of told l) (images_of told l)) (sym same)
    (record { later = omega arith; nothing_else = λ t c le left. inl left; keeps = λ t c le left. left })

-- a sync
pub synced_within : (told : Option (List ℕ)) (old new : List Stroke) → new ≡ old ++ done Sync ∷ [] → Within (images_of told new) (images_of told old)
synced_within None old new is = λ c any. tt
synced_within (Some base) old new is = sync_within base old (done Sync) new is refl

pub synced_only : (closed : Bool) (told : Option (List ℕ)) (old new : List Stroke) (b : List ℕ) → new ≡ old ++ done Sync ∷ [] → shown closed told old ≡ Some b → Only b (images_of told new)
synced_only true told old new b is was = absurd (cc was)
synced_only false None old new b is was = absurd (cc was)
synced_only false (Some base) old new b is was = λ c left. sync_only base old (done Sync) new is refl refl c left ∙ same_some was

pub elapses_synced : (told : Option (List ℕ)) (old new : List Stroke) → new ≡ old ++ done Sync ∷ [] → Elapses (length old) (length new) (images_since_of told old) (images_since_of told new) (images_of told new)
elapses_synced told old new is = elapses_done told old new Sync is
