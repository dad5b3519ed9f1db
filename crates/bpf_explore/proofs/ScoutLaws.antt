-- What scouts note, and what stays of it while more is kept.
use Rattle.std.proofs.Common.{◌≡◌, ◌∙◌, ℕ, ◌+◌, ◌<◌, ◌≤◌, Bool, false, List, [], ◌∷◌, ◌++◌, Option, Some, inl, inr, length, take, drop}
use Rattle.std.proofs.Common.{refl, sym, ap, subst, append-nil, length-append, replicate, arith}
use Rattle.std.specs.Prelude.{All, slice_get, slice_index_or}
use Rattle.std.proofs.Math.ListN.{get_or-append}
use Rattle.std.proofs.Math.Seq.{drop-append_seam}
use Rattle.std.proofs.lemmas.Bool.{cases_lt}
use Rattle.std.proofs.lemmas.List.Elements.{All-push}
use Rattle.std.proofs.lemmas.List.{length-drop, take_all, take-append-le, drop-append-le}
use Rattle.std.proofs.lemmas.Option.{slice_get_within, get_or_from_slice_get}
use Rattle.bpf_base.specs.Bytes.{part}
use Rattle.bpf_base.proofs.Lists.{slice_get-append, slice_get-front}
use Rattle.bpf_shared.specs.Shape.{Shape}
use Rattle.bpf_plain.specs.PlainStore.{Contents, IsSavedAs}
use Rattle.bpf_cpu.specs.Task.{Task}
use Rattle.bpf_machine.specs.Machine.{MachineState, Shows}
use Rattle.bpf_machine.specs.Schedule.{World, RunsSchedule}
use Rattle.bpf_machine.specs.Cover.{TurnsTo, TurnsAhead}
use Rattle.bpf_explore.specs.declared.scouts.Note.{Note}
use Rattle.bpf_explore.specs.declared.scouts.Scout.{Scout}
use Rattle.bpf_explore.specs.declared.scouts.Found.{Found}
use Rattle.bpf_explore.specs.declared.explorer.Origin.{Origin}
use Rattle.bpf_explore.specs.Stores.{IsOfShape, no_store}
use Rattle.bpf_explore.specs.Album.{Stock, FitsStock, HasMore, AreKeptUnder, AreNumbersOf, IsNumbered}
use Rattle.bpf_explore.specs.Search.{Extends}
use Rattle.bpf_explore.specs.Scouts.{LeadsAhead, HasTurned, IsTurnAhead, IsNote, AreNotes, IsScout, StaysScout, AreScouts}
use Rattle.bpf_explore.specs.Private.Scouts.{HasTuple, IsFound}
use Rattle.bpf_explore.specs.Private.Trail.{AreOrigins}
use Rattle.bpf_explore.proofs.ShelfLaws.{chosen_still, within_still}
use Rattle.bpf_explore.proofs.AlbumLaws.{still_at}

-- ---- parts of a list
pub part_still : (xs more : List ℕ) (i n : ℕ) → i + n ≤ length xs → part (xs ++ more) i n ≡ part xs i n
part_still xs more i n fits =
    let left = length-drop i xs in
    let room : n ≤ length (drop i xs) = omega arith in
    ap (λ (ns : List ℕ). take n ns) (drop-append-le i xs more (omega arith)) ∙ take-append-le n (drop i xs) more room

pub part_new : (xs more : List ℕ) (n : ℕ) → n ≡ length more → part (xs ++ more) (length xs) n ≡ more
part_new xs more n size = ap (λ (ns : List ℕ). take n ns) (drop-append_seam xs more) ∙ take_all n more (omega arith)

-- ---- while more is kept
module _ (old new : Stock) (more : HasMore old new) where
  pub fits_more : (m : MachineState) → FitsStock old m → FitsStock new m
  fits_more m is = record {
    shape = subst (λ (h : Shape). IsOfShape h m.store) (sym more.shape) is.shape;
    programs = more.programs ∙ is.programs;
    jobs = more.width ∙ is.jobs;
    lists = is.lists;
  }

  numbers_more : (numbers : List ℕ) (jobs : List Task) → AreNumbersOf old.parts numbers jobs → AreNumbersOf new.parts numbers jobs
  numbers_more numbers jobs are = subst (λ (ts : List Task). AreNumbersOf ts numbers jobs) (sym more.parts.1) (
    within_still old.parts more.parts.0 numbers are.0,
    chosen_still old.parts more.parts.0 numbers are.0 ∙ are.1,
  )

  stored_more : (n : ℕ) → n < length old.stores → n < length new.stores
  stored_more n less =
      let size = ap (λ (ps : List Contents). length ps) more.stores.1 ∙ length-append old.stores more.stores.0 in
      omega arith

  store_more : (n : ℕ) → n < length old.stores → slice_index_or new.stores n no_store ≡ slice_index_or old.stores n no_store
  store_more n less = ap (λ (ps : List Contents). slice_index_or ps n no_store) more.stores.1 ∙ get_or-append old.stores more.stores.0 no_store n less

  pub under_more : (m : MachineState) (numbers : List ℕ) → AreKeptUnder old.stores old.parts m numbers → AreKeptUnder new.stores new.parts m numbers
  under_more m numbers is = record {
    stored = stored_more (slice_index_or numbers 0 0) is.stored;
    bytes = is.bytes;
    saved = is.saved;
    alike = subst (λ (p : Contents). IsSavedAs p is.bytes) (sym (store_more (slice_index_or numbers 0 0) is.stored)) is.alike;
    jobs = numbers_more (drop 1 numbers) m.jobs is.jobs;
    size = is.size;
  }

  pub numbered_more : (m : MachineState) (numbers : List ℕ) → IsNumbered old m numbers → IsNumbered new m numbers
  numbered_more m numbers is = record { fits = fits_more m is.fits; stands = is.stands; under = under_more m numbers is.under }

  module _ (before after : List MachineState) (longer : Extends before after) where
    turned_more : (patient : Bool) (place c n : ℕ) (m : MachineState) → HasTurned patient before place c n m → HasTurned patient after place c n m
    turned_more patient place c n m is = record {
      old = is.old;
      mid = is.mid;
      at = still_at before after place is.old is.at longer;
      leads = is.leads;
      refilled = is.refilled;
    }

    turn_more : (patient : Bool) (place c n : ℕ) (numbers : List ℕ) → IsTurnAhead patient before old place c n numbers → IsTurnAhead
        patient after new place c n numbers
    turn_more patient place c n numbers is = (is.0, turned_more patient place c n is.0 is.1, numbered_more is.0 numbers is.2)

    note_more : (patient : Bool) (tuples : List ℕ) (note : Note) → IsNote patient before old tuples note → IsNote patient after new tuples note
    note_more patient tuples note is = record {
      inside = (let width = more.width in let fits = is.inside in omega arith);
      turn = subst (λ (w : ℕ). IsTurnAhead patient after new note.place note.cpu note.ahead (part tuples note.first w)) (sym more.width)
          (turn_more patient note.place note.cpu note.ahead (part tuples note.first old.width) is.turn);
    }

    pub scout_more : (scout : Scout) → IsScout before old scout → IsScout after new scout
    scout_more scout is = record {
      fits = fits_more scout.machine is.fits;
      width = is.width ∙ sym more.width;
      notes = λ i note at. note_more scout.patient scout.tuples.items note (is.notes i note at);
    }

    pub scouts_more : (patient : Bool) (scouts : List Scout) → AreScouts patient before old scouts → AreScouts patient after new scouts
    scouts_more patient scouts are i d less = let is = are i d less in (scout_more (slice_index_or scouts i d) is.0, is.1)

-- where nothing more is
pub scouts_still : (patient : Bool) (before after : List MachineState) (old new : Stock) (scouts : List Scout) → after ≡ before → new ≡ old
    → AreScouts patient before old scouts → AreScouts patient after new scouts
scouts_still patient before after old new scouts kept stock are =
    subst (λ (s : Stock). AreScouts patient after s scouts) (sym stock) (subst (λ (ms : List MachineState). AreScouts patient ms old scouts) (sym kept) are)

-- ---- turns
pub leads_as : (old new : MachineState) (c made n : ℕ) → n ≡ made → TurnsTo old c new → TurnsAhead old c made new
    → ((w : World) → Shows old w → (z : World) × RunsSchedule w (c ∷ replicate made c) z × Shows new z) → LeadsAhead old c n new
leads_as old new c made n same turns ahead runs = subst (λ (k : ℕ). LeadsAhead old c k new) (sym same) (record { turns = turns; ahead = ahead; runs = runs })

-- ---- notes
module _ (patient : Bool) (kept : List MachineState) (stock : Stock) where
  note_longer : (tuples more : List ℕ) (note : Note) → IsNote patient kept stock tuples note → IsNote patient kept stock (tuples ++ more) note
  note_longer tuples more note is = record {
    inside = (let both = length-append tuples more in let fits = is.inside in omega arith);
    turn = subst (IsTurnAhead patient kept stock note.place note.cpu note.ahead) (sym (part_still tuples more note.first stock.width is.inside)) is.turn;
  }

  pub notes_longer : (tuples more : List ℕ) (notes : List (Option Note)) → AreNotes patient kept stock tuples notes → AreNotes patient kept
      stock (tuples ++ more) notes
  notes_longer tuples more notes are i note at = note_longer tuples more note (are i note at)

  pub none_noted : (tuples : List ℕ) → AreNotes patient kept stock tuples []
  none_noted tuples i note at =
      let none : List (Option Note) = [] in
      let inside = slice_get_within none i (Some note) at in
      absurd (omega arith)

  pub one_noted : (tuples : List ℕ) (notes : List (Option Note)) (o : Option Note) → AreNotes patient kept stock tuples notes
      → ((note : Note) → o ≡ Some note → IsNote patient kept stock tuples note) → AreNotes patient kept stock tuples (notes ++ o ∷ [])
  one_noted tuples notes o are is i note at = elim (cases_lt i (length notes)) [
    | inl below ↦ are i note (sym (slice_get-front notes (o ∷ []) i below) ∙ at)
    | inr past ↦
        let inside = slice_get_within (notes ++ o ∷ []) i (Some note) at in
        let both = length-append notes (o ∷ []) in
        let there : Some o ≡ Some (Some note) = sym (slice_get-append notes (o ∷ []) 0 i (omega arith)) ∙ at in
        is note cc
  ]

  pub turn_noted : (tuples numbers : List ℕ) (notes : List (Option Note)) (note : Note) → AreNotes patient kept stock tuples notes
      → note.first ≡ length tuples → stock.width ≡ length numbers → IsTurnAhead patient kept stock note.place note.cpu note.ahead numbers
      → AreNotes patient kept stock (tuples ++ numbers) (notes ++ Some note ∷ [])
  turn_noted tuples numbers notes note are first width turn =
      let here : part (tuples ++ numbers) note.first stock.width ≡ numbers =
      ap (λ (k : ℕ). part (tuples ++ numbers) k stock.width) first ∙ part_new tuples numbers stock.width width in
      let is : IsNote patient kept stock (tuples ++ numbers) note = record {
        inside = (let both = length-append tuples numbers in omega arith);
        turn = subst (IsTurnAhead patient kept stock note.place note.cpu note.ahead) (sym here) turn;
      } in
      one_noted (tuples ++ numbers) notes (Some note) (notes_longer tuples numbers notes are)
      (λ other same. subst (IsNote patient kept stock (tuples ++ numbers)) (let one : note ≡ other = cc in one) is)

-- ---- scouts
pub sent : (patient : Bool) (kept : List MachineState) (stock : Stock) (old new : List Scout) → length new ≡ length old
    → ((i : ℕ) (d : Scout) → i < length old → StaysScout kept stock (slice_index_or old i d) (slice_index_or new i d))
    → AreScouts patient kept stock old → AreScouts patient kept stock new
sent patient kept stock old new size all are i d less =
    let inside : i < length old = omega arith in
    let r = all i d inside in
    (r.0, r.1 ∙ (are i d inside).1)

pub each_scout : (patient : Bool) (kept : List MachineState) (stock : Stock) (scouts : List Scout) → AreScouts patient kept stock scouts
    → All (IsScout kept stock) scouts
each_scout patient kept stock scouts are i d less = (are i d less).0

pub scout_at : (patient : Bool) (kept : List MachineState) (stock : Stock) (scouts : List Scout) (k : ℕ) (scout : Scout)
    → AreScouts patient kept stock scouts → slice_get scouts k ≡ Some scout → IsScout kept stock scout × (scout.patient ≡ patient)
scout_at patient kept stock scouts k scout are at =
    let is = are k scout (slice_get_within scouts k scout at) in
    subst (λ (s : Scout). IsScout kept stock s × (s.patient ≡ patient)) (get_or_from_slice_get scouts k scout scout at) is

-- what a search does with a note
pub found_turn : (patient : Bool) (kept : List MachineState) (stock : Stock) (scouts : List Scout) (place c : ℕ) (found : Found)
    → AreScouts patient kept stock scouts → IsFound scouts place c found
    → (scout : Scout) × HasTuple scouts found scout
    × IsTurnAhead patient kept stock place c found.note.ahead (part scout.tuples.items found.note.first scout.width)
found_turn patient kept stock scouts place c found are (here, own, (scout, at, (i, noted))) =
    let is = scout_at patient kept stock scouts found.scout scout are at in
    let note = is.0.notes i found.note noted in
    let width = is.0.width in
    let fits = note.inside in
    let P : Bool → Type 0 = λ p. IsTurnAhead p kept stock found.note.place found.note.cpu found.note.ahead
    (part scout.tuples.items found.note.first stock.width) in
    let Q : ℕ → Type 0 = λ w. IsTurnAhead patient kept stock found.note.place found.note.cpu found.note.ahead
    (part scout.tuples.items found.note.first w) in
    let numbers = part scout.tuples.items found.note.first scout.width in (
      scout,
      (at, omega arith),
      subst (λ (k : ℕ). IsTurnAhead patient kept stock place k found.note.ahead numbers) own
          (subst (λ (k : ℕ). IsTurnAhead patient kept stock k found.note.cpu found.note.ahead numbers) here
          (subst Q (sym width) (subst P is.1 note.turn))),
    )

pub taken_turn : (patient : Bool) (kept : List MachineState) (stock : Stock) (scouts : List Scout) (place c : ℕ) (found : Found) (numbers : List ℕ)
    → AreScouts patient kept stock scouts → IsFound scouts place c found
    → ((scout : Scout) → HasTuple scouts found scout → numbers ≡ part scout.tuples.items found.note.first scout.width)
    → IsTurnAhead patient kept stock place c found.note.ahead numbers
taken_turn patient kept stock scouts place c found numbers are is read =
    let r = found_turn patient kept stock scouts place c found are is in
    subst (IsTurnAhead patient kept stock place c found.note.ahead) (sym (read r.0 r.1)) r.2

-- in a search that isn't patient
pub leads_exactly : (kept : List MachineState) (place c n : ℕ) (new : MachineState) (is : HasTurned false kept place c n new) → LeadsAhead is.old c n new
leads_exactly kept place c n new is = subst (LeadsAhead is.old c n) (sym is.refilled) is.leads

pub same_has_more : (old new : Stock) → new ≡ old → HasMore old new
same_has_more old new same = subst (HasMore old) (sym same) (record {
  shape = refl;
  programs = refl;
  width = refl;
  stores = ([], sym (append-nil old.stores));
  parts = ([], sym (append-nil old.parts));
})

pub no_scouts : (patient : Bool) (kept : List MachineState) (stock : Stock) → AreScouts patient kept stock []
no_scouts patient kept stock i d less = absurd (omega arith)

pub one_more_scout : (patient : Bool) (kept : List MachineState) (stock : Stock) (scouts : List Scout) (scout : Scout)
    → AreScouts patient kept stock scouts → IsScout kept stock scout × (scout.patient ≡ patient) → AreScouts patient kept stock (scouts ++ scout ∷ [])
one_more_scout patient kept stock scouts scout are is = All-push (λ (s : Scout). IsScout kept stock s × (s.patient ≡ patient)) scouts scout are is

-- what an explorer keeps true
abbrev pub IsExplorer : List MachineState → Stock → List Origin → List Scout → Type 0
IsExplorer kept stock origins scouts = AreOrigins RunsSchedule kept origins × AreScouts false kept stock scouts

pub explorer_still : (before after : List MachineState) (old new : Stock) (origins : List Origin) (scouts : List Scout) → after ≡ before → new ≡ old
    → IsExplorer before old origins scouts → IsExplorer after new origins scouts
explorer_still before after old new origins scouts kept stock is = (
  subst (λ (ms : List MachineState). AreOrigins RunsSchedule ms origins) (sym kept) is.0,
  scouts_still false before after old new scouts kept stock is.1,
)

-- where only what there is of stores and jobs is more
pub explorer_more : (before after : List MachineState) (old new : Stock) (origins : List Origin) (scouts : List Scout) → after ≡ before
    → HasMore old new → IsExplorer before old origins scouts → IsExplorer after new origins scouts
explorer_more before after old new origins scouts kept more is = (
  subst (λ (ms : List MachineState). AreOrigins RunsSchedule ms origins) (sym kept) is.0,
  scouts_more old new more before after ([], kept ∙ sym (append-nil before)) false scouts is.1,
)
