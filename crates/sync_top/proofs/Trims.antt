-- A server over its trimmed file answers as one over the whole file, and its own file stays its own.
use Rattle.std.proofs.Common.{◌≡◌, ◌<◌, ◌≤◌, ◌+◌, ◌-◌, inl, inr, ⊎_elim, ℕ, zero, suc, Bool, true, false, ◌==◌, eqb-true, List, [], ◌∷◌, ◌++◌, Option, None, Some, Ok, IfSome, refl, sym, ap, ap₂, subst, subst₂, ◌∙◌, arith, append_assoc, append-nil, length, map, take}
use Rattle.std.proofs.Math.Seq.{take-append-add, take-nil}
use Rattle.std.proofs.lemmas.Bool.{cases_lt}
use Rattle.std.proofs.lemmas.List.{take-append-le}
use Rattle.std.specs.Option.{option_map}
use Rattle.sync_data.specs.declared.instr.Instr.{Instr}
use Rattle.sync_base.specs.States.{State}
use Rattle.sync_theory.specs.Changesets.{Changeset}
use Rattle.sync_model.specs.Fronts.{file_gives}
use Rattle.sync_model.specs.Messages.{Change, Message, Bind, Ident, Upload, Ask, Download, Refused, Stored, Ask2, Retire, Retired, AskTables}
use Rattle.sync_model.specs.Parts.{Given, Parts, after_parts, as_before, ask_by, at_ident, parts_open, serve_by}
use Rattle.sync_model.specs.Servers.{ServerRecord, ServerStep, download, download_first, download_tables}
use Rattle.sync_model.specs.Trimmed.{keeps_nothing, keeps_trimmed, KeptBy}
use Rattle.sync_model.specs.Trims.{KeptLess, Spans, is_trimmed, trimmed}
use Rattle.sync_model.proofs.Alike.{IsLow, LowChange, parts_floor, served_high, served_same}
use Rattle.sync_model.proofs.GivenUp.{all_kept, by_records, trims_alike}
use Rattle.sync_model.proofs.Trims.{ask_refused, refused_below, trims_less}
use Rattle.sync_model.proofs.Written.{open_cut, serve_writes}
use Rattle.sync_exchange.specs.Lemmas.Buildable.{real_buildable}
use Rattle.sync_exchange.specs.Lemmas.Lawful.{real_lawful}
use Rattle.sync_exchange.specs.Profile.{the_profile}
use Rattle.server_memory.proofs.Continuing.{file_goes_on}
use Rattle.sync_words.specs.Messages.{message_read}
use Rattle.sync_node.specs.Frames.{frame}
use Rattle.sync_node.specs.Items.{Items, Over, Bad, Limit, Next}
use Rattle.sync_node.specs.Runs.{Answer, Run, added, answered, onto}
use Rattle.sync_node.specs.ServerTexts.{IsOwn, trimmed_by}
use Rattle.sync_node.specs.Steps.{kept_by, kept_or, replied}
use Rattle.sync_top.specs.Trims.{AnyBelow, AsksFrom, IsServedAlike, NoneBelowFloor, ReachesBelow, RefusesBelow, ServesAlike, StaysAbove, StaysOwn, served}

-- ---- what a file gives, as its server serves
abbrev Gives : List ServerRecord → Type 0
Gives records = file_gives the_profile (map (λ r. Some r) records) ≡ Ok (kept_by records)

given : (records : List ServerRecord) (kept : Parts Instr State) → file_gives the_profile (map (λ r. Some r) records) ≡ Ok kept → (kept_by records ≡ kept) × Gives records
given records kept e = let same : kept_by records ≡ kept = ap kept_or e in (same, e ∙ ap (λ k. Ok k) (sym same))

more : (records new : List ServerRecord) → Gives records → parts_open the_profile (kept_by records) new ≡ true → (kept_by (records ++ new) ≡ after_parts the_profile (kept_by records) new) × Gives (records ++ new)
more records new g e = given (records ++ new) (after_parts the_profile (kept_by records) new) (file_goes_on the_profile records new (kept_by records) g e)

-- the records that a message adds
abbrev new_by : List ServerRecord → Message → List ServerRecord
new_by records m = (serve_by the_profile (kept_by records) m).records

serves : (records : List ServerRecord) (m : Message) → Gives records → (kept_by (records ++ new_by records m) ≡ (serve_by the_profile (kept_by records) m).parts) × Gives (records ++ new_by records m)
serves records m g =
    let w = serve_writes the_profile (kept_by records) m in
    let a = more records (new_by records m) g w.opens in
    (a.0 ∙ w.gives, a.1)

-- ---- two files, of which the second gives less
record Both (floor : ℕ) (whole less : List ServerRecord) : Type 0 where
  whole_gives : Gives whole
  less_gives : Gives less
  kept : KeptLess (kept_by whole) (kept_by less)
  floor_is : (kept_by less).floor ≡ floor

-- a message that both servers answer alike
abbrev Same : List ServerRecord → List ServerRecord → Message → Type 0
Same whole less m =
    (new_by less m ≡ new_by whole m) × ((serve_by the_profile (kept_by less) m).answer ≡ (serve_by the_profile (kept_by whole) m).answer)
    × KeptLess (serve_by the_profile (kept_by whole) m).parts (serve_by the_profile (kept_by less) m).parts

next : (floor : ℕ) (whole less : List ServerRecord) → Both floor whole less → (m : Message) → Same whole less m
    → ◌≡◌ {A = Answer ServerRecord} (replied (serve_by the_profile (kept_by less) m)) (replied (serve_by the_profile (kept_by whole) m)) × Both floor (whole ++ new_by whole m) (less ++ new_by less m)
next floor whole less b m same =
    let x = serves whole m b.whole_gives in
    let y = serves less m b.less_gives in (
      ap₂ (λ t rs. record { text = frame t; records = rs }) same.1 same.0,
      record {
        whole_gives = x.1;
        less_gives = y.1;
        kept = subst₂ (λ u v. KeptLess u v) (sym x.0) (sym y.0) same.2;
        floor_is = ap (λ (k : Parts Instr State). k.floor) (y.0 ∙ sym (serve_writes the_profile (kept_by less) m).gives) ∙ parts_floor the_profile (new_by less m) (kept_by less) ∙ b.floor_is;
      },
    )

none_added : (floor : ℕ) (whole less : List ServerRecord) → Both floor whole less → Both floor (whole ++ []) (less ++ [])
none_added floor whole less b = subst₂ (λ w l. Both floor w l) (sym (append-nil whole)) (sym (append-nil less)) b

-- ---- answers
not_below : (m : Message) → (((ident : ℕ) × (number : ℕ) × (place : ℕ) × (frame m ≡ frame (Refused ident number 71 place))) → ⊥) → is_trimmed m ≡ false
not_below (Refused ident number code place) none = on (code == 71) refl
  where
    on : (b : Bool) → (code == 71) ≡ b → b ≡ false
    on true e = absurd (none (ident, number, place, ap (λ c. frame (Refused ident number c place)) (eqb-true code 71 e)))
    on false e = refl
not_below (Bind u) none = refl
not_below (Ident u c) none = refl
not_below (Upload c hs) none = refl
not_below (Ask c cursor settled) none = refl
not_below (Download c from es) none = refl
not_below (Stored c number) none = refl
not_below (Ask2 c cursor settled) none = refl
not_below (Retire c by) none = refl
not_below (Retired c by number) none = refl
not_below (AskTables c cursor settled second tables) none = refl

low_changes : (floor : ℕ) (hs : List Change) → LowChange floor hs → AnyBelow floor hs
low_changes floor [] low = low
low_changes floor (h ∷ hs) low = ⊎_elim (λ l. inl l) (λ l. inr (low_changes floor hs l)) low

low_is : (floor : ℕ) (m : Message) → IsLow floor m → ReachesBelow floor m
low_is floor (Upload c hs) low = low_changes floor hs low
low_is floor (Ask c cursor settled) low = low
low_is floor (Ask2 c cursor settled) low = low
low_is floor (AskTables c cursor settled second tables) low = low
low_is floor (Bind u) low = low
low_is floor (Ident u c) low = low
low_is floor (Download c from es) low = low
low_is floor (Refused c number code place) low = low
low_is floor (Stored c number) low = low
low_is floor (Retire c by) low = low
low_is floor (Retired c by number) low = low

-- the run at a message, or at what is none
abbrev at_next : ℕ → List ServerRecord → Items → Option Message → Run ServerRecord
at_next number records rest o = answered number (option_map (λ m. replied (serve_by the_profile (kept_by records) m)) o) (λ new. served (records ++ new) rest)

first_same : (frames : Items) (floor : ℕ) (whole less : List ServerRecord) → Both floor whole less → (n : ℕ) → NoneBelowFloor (take n (served less frames).answers) → take n (served less frames).answers ≡ take n (served whole frames).answers
first_same Over floor whole less b n none = refl
first_same (Bad number) floor whole less b n none = refl
first_same Limit floor whole less b n none = refl
first_same (Next number bytes rest) floor whole less b n none = on (message_read bytes) n none (λ w l k i e. first_same rest floor w l k i e)
  where
    on : (o : Option Message) (n : ℕ) → NoneBelowFloor (take n (at_next number less rest o).answers)
        → ((w l : List ServerRecord) → Both floor w l → (i : ℕ) → NoneBelowFloor (take i (served l rest).answers) → take i (served l rest).answers ≡ take i (served w rest).answers)
        → take n (at_next number less rest o).answers ≡ take n (at_next number whole rest o).answers
    on None n none go = refl
    on (Some m) zero none go = refl
    on (Some m) (suc n) none go =
        let s = next floor whole less b m (served_same the_profile (kept_by whole) (kept_by less) b.kept m (not_below (serve_by the_profile (kept_by less) m).answer none.0)) in
        ap₂ (λ a l. a ∷ l) s.0 (go (whole ++ new_by whole m) (less ++ new_by less m) s.1 n none.1)

all_same_run : (frames : Items) (floor : ℕ) (whole less : List ServerRecord) → Both floor whole less → NoneBelowFloor (served less frames).answers → served less frames ≡ served whole frames
all_same_run Over floor whole less b none = refl
all_same_run (Bad number) floor whole less b none = refl
all_same_run Limit floor whole less b none = refl
all_same_run (Next number bytes rest) floor whole less b none = on (message_read bytes) none (λ w l k e. all_same_run rest floor w l k e)
  where
    on : (o : Option Message) → NoneBelowFloor (at_next number less rest o).answers
        → ((w l : List ServerRecord) → Both floor w l → NoneBelowFloor (served l rest).answers → served l rest ≡ served w rest)
        → at_next number less rest o ≡ at_next number whole rest o
    on None none go = refl
    on (Some m) none go =
        let s = next floor whole less b m (served_same the_profile (kept_by whole) (kept_by less) b.kept m (not_below (serve_by the_profile (kept_by less) m).answer none.0)) in
        ap₂ (λ a r. onto (a ∷ []) r) s.0 (go (whole ++ new_by whole m) (less ++ new_by less m) s.1 none.1)

-- both go on alike
both_end : (frames : Items) (floor : ℕ) (whole less : List ServerRecord) → Both floor whole less → NoneBelowFloor (served less frames).answers → Both floor (whole ++ added (served whole frames).answers) (less ++ added (served less frames).answers)
both_end Over floor whole less b none = none_added floor whole less b
both_end (Bad number) floor whole less b none = none_added floor whole less b
both_end Limit floor whole less b none = none_added floor whole less b
both_end (Next number bytes rest) floor whole less b none = on (message_read bytes) none (λ w l k e. both_end rest floor w l k e)
  where
    on : (o : Option Message) → NoneBelowFloor (at_next number less rest o).answers
        → ((w l : List ServerRecord) → Both floor w l → NoneBelowFloor (served l rest).answers → Both floor (w ++ added (served w rest).answers) (l ++ added (served l rest).answers))
        → Both floor (whole ++ added (at_next number whole rest o).answers) (less ++ added (at_next number less rest o).answers)
    on None none go = none_added floor whole less b
    on (Some m) none go =
        let s = next floor whole less b m (served_same the_profile (kept_by whole) (kept_by less) b.kept m (not_below (serve_by the_profile (kept_by less) m).answer none.0)) in
        subst₂ (λ w l. Both floor w l) (append_assoc whole (new_by whole m) (added (served (whole ++ new_by whole m) rest).answers)) (append_assoc less (new_by less m) (added (served (less ++ new_by less m) rest).answers))
        (go (whole ++ new_by whole m) (less ++ new_by less m) s.1 none.1)

above_same : (frames : Items) (floor : ℕ) (whole less : List ServerRecord) → Both floor whole less → StaysAbove floor frames → served less frames ≡ served whole frames
above_same Over floor whole less b high = refl
above_same (Bad number) floor whole less b high = refl
above_same Limit floor whole less b high = refl
above_same (Next number bytes rest) floor whole less b high = on (message_read bytes) high.0 (λ w l k. above_same rest floor w l k high.1)
  where
    on : (o : Option Message) → IfSome o (λ m. ReachesBelow floor m → ⊥)
        → ((w l : List ServerRecord) → Both floor w l → served l rest ≡ served w rest)
        → at_next number less rest o ≡ at_next number whole rest o
    on None high go = refl
    on (Some m) high go =
        let s = next floor whole less b m (served_high the_profile (kept_by whole) (kept_by less) b.kept m (λ low. high (low_is floor m (subst (λ f. IsLow f m) b.floor_is low)))) in
        ap₂ (λ a r. onto (a ∷ []) r) s.0 (go (whole ++ new_by whole m) (less ++ new_by less m) s.1)

serves_alike : (whole less : List ServerRecord) → Gives whole → Gives less → KeptLess (kept_by whole) (kept_by less) → ServesAlike whole less
serves_alike whole less x y k =
    let b : Both (kept_by less).floor whole less = record { whole_gives = x; less_gives = y; kept = k; floor_is = refl } in
    record {
      first_answers = λ frames n none. first_same frames (kept_by less).floor whole less b n none;
      all_answers = λ frames none. all_same_run frames (kept_by less).floor whole less b none;
      gives = λ frames none. let e = both_end frames (kept_by less).floor whole less b none in (e.kept.len, e.kept.objects);
      above = λ frames high. above_same frames (kept_by less).floor whole less b high;
    }

-- ---- code 71, by the floor
refuses_below : (kept : Parts Instr State) → Spans kept → RefusesBelow kept
refuses_below kept spans = record { questions = questions; changes = λ ident g h below. refused_below the_profile kept ident g h below }
  where
    within : (cursor : ℕ) → cursor < kept.floor → cursor ≤ kept.len
    within cursor lt = let reach = spans.reach in omega arith

    refused_by : (ident cursor settled : ℕ) (g : Given Instr) (go : List (Changeset Instr) → ServerStep) → cursor < kept.floor → (ask_by kept ident cursor settled (Some g) go).answer ≡ Refused ident 0 71 kept.floor
    refused_by ident cursor settled g go lt = ap (λ (s : Rattle.sync_model.specs.Parts.Served Instr State). s.answer) (ask_refused kept ident cursor settled g go (within cursor lt) lt)

    questions : (ident cursor : ℕ) (g : Given Instr) (m : Message) → at_ident ident kept.idents ≡ Some g → cursor < kept.floor → AsksFrom ident cursor m → (serve_by the_profile kept m).answer ≡ Refused ident 0 71 kept.floor
    questions ident cursor g (Ask c from settled) there lt asks =
        ap₂ (λ i k. (ask_by kept i k settled (at_ident i kept.idents) (download_first the_profile i k)).answer) asks.0 asks.1
        ∙ ap (λ o. (ask_by kept ident cursor settled o (download_first the_profile ident cursor)).answer) there ∙ refused_by ident cursor settled g (download_first the_profile ident cursor) lt
    questions ident cursor g (Ask2 c from settled) there lt asks =
        ap₂ (λ i k. (ask_by kept i k settled (at_ident i kept.idents) (download the_profile i k)).answer) asks.0 asks.1
        ∙ ap (λ o. (ask_by kept ident cursor settled o (download the_profile ident cursor)).answer) there ∙ refused_by ident cursor settled g (download the_profile ident cursor) lt
    questions ident cursor g (AskTables c from settled second tables) there lt asks =
        ap₂ (λ i k. (ask_by kept i k settled (at_ident i kept.idents) (download_tables the_profile second tables i k)).answer) asks.0 asks.1
        ∙ ap (λ o. (ask_by kept ident cursor settled o (download_tables the_profile second tables ident cursor)).answer) there ∙ refused_by ident cursor settled g (download_tables the_profile second tables ident cursor) lt
    questions ident cursor g (Bind u) there lt asks = absurd asks
    questions ident cursor g (Ident u c) there lt asks = absurd asks
    questions ident cursor g (Upload c hs) there lt asks = absurd asks
    questions ident cursor g (Download c from es) there lt asks = absurd asks
    questions ident cursor g (Refused c number code place) there lt asks = absurd asks
    questions ident cursor g (Stored c number) there lt asks = absurd asks
    questions ident cursor g (Retire c by) there lt asks = absurd asks
    questions ident cursor g (Retired c by number) there lt asks = absurd asks

-- ---- the trimmed file of a server's own
pub trims_well : (records : List ServerRecord) → IsOwn records → IsServedAlike records
trims_well records own =
    let kept = kept_by records in
    let less = given (trimmed_by records) (trimmed the_profile kept) (trims_alike the_profile real_lawful real_buildable kept own.kept [] refl).file in
    let spans = (all_kept the_profile real_lawful real_buildable own.kept).sound.spans in
    let by : KeptBy the_profile (kept_by (trimmed_by records)) = subst (λ k. KeptBy the_profile k) (sym less.0) (keeps_trimmed own.kept) in
    record {
      alike = serves_alike records (trimmed_by records) own.gives less.1 (subst (λ k. KeptLess kept k) (sym less.0) (trims_less the_profile kept spans));
      below = refuses_below (kept_by (trimmed_by records)) (all_kept the_profile real_lawful real_buildable by).sound.spans;
      own = record { gives = less.1; kept = by };
    }

-- ---- a server's own file
own_more : (records new : List ServerRecord) → IsOwn records → parts_open the_profile (kept_by records) new ≡ true → IsOwn (records ++ new)
own_more records new own e =
    let a = more records new own.gives e in
    record { gives = a.1; kept = subst (λ k. KeptBy the_profile k) (sym a.0) (by_records the_profile new (kept_by records) own.kept e) }

own_run : (frames : Items) (records : List ServerRecord) → IsOwn records → (n : ℕ) → IsOwn (records ++ take n (added (served records frames).answers))
own_run Over records own n = subst (λ l. IsOwn l) (sym (ap (λ l. records ++ l) (take-nil n) ∙ append-nil records)) own
own_run (Bad number) records own n = subst (λ l. IsOwn l) (sym (ap (λ l. records ++ l) (take-nil n) ∙ append-nil records)) own
own_run Limit records own n = subst (λ l. IsOwn l) (sym (ap (λ l. records ++ l) (take-nil n) ∙ append-nil records)) own
own_run (Next number bytes rest) records own n = on (message_read bytes) (λ rs o i. own_run rest rs o i)
  where
    on : (o : Option Message) → ((rs : List ServerRecord) → IsOwn rs → (i : ℕ) → IsOwn (rs ++ take i (added (served rs rest).answers))) → IsOwn (records ++ take n (added (at_next number records rest o).answers))
    on None go = subst (λ l. IsOwn l) (sym (ap (λ l. records ++ l) (take-nil n) ∙ append-nil records)) own
    on (Some m) go = ⊎_elim cut whole (cases_lt n (length (new_by records m)))
      where
        new : List ServerRecord
        new = new_by records m

        rest_of : List ServerRecord
        rest_of = added (served (records ++ new_by records m) rest).answers

        cut : n < length (new_by records m) → IsOwn (records ++ take n (new_by records m ++ rest_of))
        cut lt = subst (λ l. IsOwn (records ++ l)) (sym (take-append-le n (new_by records m) rest_of (omega arith))) (own_more records (take n (new_by records m)) own (open_cut the_profile n (kept_by records) (new_by records m) (serve_writes the_profile (kept_by records) m).opens))

        whole : length (new_by records m) ≤ n → IsOwn (records ++ take n (new_by records m ++ rest_of))
        whole le =
            let i = n - length (new_by records m) in
            let sum : n ≡ length (new_by records m) + i = omega arith in
            subst (λ l. IsOwn l) (append_assoc records (new_by records m) (take i rest_of) ∙ ap (λ l. records ++ l) (sym (ap (λ k. take k (new_by records m ++ rest_of)) sum ∙ take-append-add (new_by records m) rest_of i)))
            (go (records ++ new_by records m) (own_more records (new_by records m) own (serve_writes the_profile (kept_by records) m).opens) i)

pub stays_own : (records : List ServerRecord) (frames : Items) → StaysOwn records frames
stays_own records frames = record {
  begins = record { gives = refl; kept = keeps_nothing };
  goes_on = λ own n. own_run frames records own n;
}
