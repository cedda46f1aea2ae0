-- A form is a function from JSON data to what it stands for, or to none where the data has another form.
use Rattle.std.specs.Prelude.{◌≡◌, Bool, Option, Some, None, Result, Ok, Err, if◌then◌else◌}
use Rattle.sync_value_text.specs.declared.refusal.TextRefusal.{TextRefusal}
use Rattle.sync_value_text.specs.declared.refusal.TextRefusal.TheVariants as refusals

-- one step after another, each with what the one before gave
infixl 10 ◌>>=◌
abbrev pub ◌>>=◌ : {A B : Type 0} → Option A → (A → Option B) → Option B
Some x >>= f = f x
None >>= f = None

-- a value, where a condition holds
abbrev pub provided : {A : Type 0} → Bool → A → Option A
provided b x = if b then Some x else None

-- What a call answered is what the form gives: the value, seen by `view`, or `BadValue` exactly where there is none.
abbrev pub DecidesBy : {X Y : Type 0} → (X → Y) → Result X TextRefusal → Option Y → Type 0
DecidesBy view (Ok x) form = form ≡ Some (view x)
DecidesBy view (Err e) form = (e ≡ refusals.BadValue) × (form ≡ None)

abbrev pub Decides : {X : Type 0} → Result X TextRefusal → Option X → Type 0
Decides (Ok x) form = form ≡ Some x
Decides (Err e) form = (e ≡ refusals.BadValue) × (form ≡ None)

-- The same, unless memory ran out.
abbrev pub Refuses : {X : Type 0} → TextRefusal → Option X → Type 0
Refuses refusals.BadValue form = form ≡ None
Refuses refusals.NoMemory form = Unit {0}

abbrev pub ReadsBy : {X Y : Type 0} → (X → Y) → Result X TextRefusal → Option Y → Type 0
ReadsBy view (Ok x) form = form ≡ Some (view x)
ReadsBy view (Err e) form = Refuses e form

abbrev pub Reads : {X : Type 0} → Result X TextRefusal → Option X → Type 0
Reads (Ok x) form = form ≡ Some x
Reads (Err e) form = Refuses e form
