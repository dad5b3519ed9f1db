-- Where moves from kept machines lead, and from which an end can be reached.
use Rattle.std.proofs.Common.{◌≡◌, ◌∙◌, ℕ, zero, suc, ◌+◌, ◌-◌, ◌<◌, ◌≤◌, ◌⊎◌, Bool, true, false, List, [], ◌∷◌, ◌++◌, Option, Some, None, inl, inr, length}
use Rattle.std.proofs.Common.{replicate, refl, sym, ap, subst, append-nil, length-append, arith}
use Rattle.std.specs.Prelude.{IfSome, Vec, slice_get, slice_set}
use Rattle.std.specs.declared.alloc.Global.{Global}
use Rattle.std.proofs.lemmas.Bool.{cases_lt}
use Rattle.std.proofs.lemmas.List.{nil_from_length}
use Rattle.bpf_base.proofs.Lists.{slice_get-set_other}
use Rattle.bpf_shared.proofs.Puts.{equal_or_not}
use Rattle.bpf_machine.specs.Rounds.{HaveEnded}
use Rattle.bpf_x86.specs.Machine.{Move, TurnOf, FlushOf}
use Rattle.bpf_buffering.specs.Album.{HaveEndedAt}
use Rattle.bpf_buffering.specs.Search.{BufferedState}
use Rattle.bpf_patience.specs.Ends.{AreStuckX86, IsStuckX86, LeadsToX86}
use Rattle.bpf_reorderings.specs.declared.edges.Edge.{Edge}
use Rattle.bpf_reorderings.specs.Private.Edges.{AreEdgesFrom, FlushLeads, IsEdge, IsIdleAt}
use Rattle.bpf_reorderings.specs.Private.Hung.{GoesTo, LeadsToEnd, LeadToEnds, NoneRanOutAt}
use Rattle.bpf_reorderings.specs.Private.Searching.{CannotMoveAt, Extends, IsFlushedTo, IsMovedTo}
use Rattle.bpf_reorderings.proofs.Growing.{as_kept, just_moved}

-- ---- lists
pub there : (kept : List BufferedState) (i : ℕ) → i < length kept → (m : BufferedState) × (slice_get kept i ≡ Some m)
there [] i less = absurd (omega arith)
there (m ∷ kept) zero less = (m, refl)
there (m ∷ kept) (suc i) less = there kept i (omega arith)

-- what is in a list that one more was put after
pub pushed_at : {A : Type 0} (xs : List A) (x : A) (i : ℕ) (y : A) → slice_get (xs ++ x ∷ []) i ≡ Some y → (slice_get xs i ≡ Some y) ⊎
    ((length xs ≡ i) × (x ≡ y))
pushed_at [] x zero y at = inr (refl, cc)
pushed_at [] x (suc i) y at = cc
pushed_at (z ∷ xs) x zero y at = inl at
pushed_at (z ∷ xs) x (suc i) y at = elim (pushed_at xs x i y at) [ inl before ↦ inl before | inr last ↦ inr (ap suc last.0, last.1) ]

-- nothing was kept
pub none_added : (old new : List BufferedState) → Extends old new → length new ≤ length old → new ≡ old
none_added old new (more, is) few =
    let both = length-append old more in
    let size : length new ≡ length (old ++ more) = ap (λ (ms : List BufferedState). length ms) is in
    let none : more ≡ [] = nil_from_length more (omega arith) in
    is ∙ (ap (λ (ms : List BufferedState). old ++ ms) none ∙ append-nil old)

-- ---- where moves led
pub leads_there : (kept : List BufferedState) (i : ℕ) (move : Move) (k : ℕ) → i < length kept → IsMovedTo true kept i move k → LeadsToX86 kept i move k
leads_there kept i move k inside is =
    let h = there kept i inside in
    let r = is.1 h.0 h.1 in
    (h.0, r.0, h.1, r.1, r.2)

flush_leads : (kept : List BufferedState) (i c : ℕ) (to : Option ℕ) → i < length kept → IsFlushedTo true kept i c to → FlushLeads kept i c to
flush_leads kept i c None inside is = is
flush_leads kept i c (Some k) inside is = (is.0, leads_there kept i (FlushOf c) k inside is)

pub flush_there : (patient : Bool) (old new : List BufferedState) (i c : ℕ) (to : Option ℕ) → new ≡ old → patient ≡ true → i < length old →
    IsFlushedTo patient new i c to → FlushLeads old i c to
flush_there patient old new i c to same is inside moved = flush_leads old i c to inside
    (subst (λ (ms : List BufferedState). IsFlushedTo true ms i c to) same (subst (λ (b : Bool). IsFlushedTo b new i c to) is moved))

pub next_edge : (kept : List BufferedState) (i n : ℕ) (row pushed : List Edge) (one : Edge) → length row ≡ n → pushed ≡ row ++ one ∷ [] →
    ((c : ℕ) (e : Edge) → slice_get row c ≡ Some e → IsEdge kept i c e) → IsEdge kept i n one → (c : ℕ) (e : Edge) → slice_get pushed c ≡ Some e →
    IsEdge kept i c e
next_edge kept i n row pushed one count same far here c e at =
    elim (pushed_at row one c e (ap (λ (es : List Edge). slice_get es c) (sym same) ∙ at)) [
      | inl before ↦ far c e before
      | inr last ↦ subst (λ (k : ℕ). IsEdge kept i k e) (sym count ∙ last.0) (subst (IsEdge kept i n) last.1 here)
    ]

pub next_row : (kept : List BufferedState) (n : ℕ) (rows pushed : List (Vec Edge Global)) (one : Vec Edge Global) → length rows ≡ n → pushed ≡ rows
    ++ one ∷ [] → ((i : ℕ) (row : Vec Edge Global) → slice_get rows i ≡ Some row → AreEdgesFrom kept i row.items) → AreEdgesFrom kept n one.items
    → (i : ℕ) (row : Vec Edge Global) → slice_get pushed i ≡ Some row → AreEdgesFrom kept i row.items
next_row kept n rows pushed one count same far here i row at =
    elim (pushed_at rows one i row (ap (λ (rs : List (Vec Edge Global)). slice_get rs i) (sym same) ∙ at)) [
      | inl before ↦ far i row before
      | inr last ↦ subst (λ (k : ℕ). AreEdgesFrom kept k row.items) (sym count ∙ last.0)
          (subst (λ (r : Vec Edge Global). AreEdgesFrom kept n r.items) last.1 here)
    ]

-- ---- a kept machine
pub ended_leads : (kept : List BufferedState) (i : ℕ) → i < length kept → HaveEndedAt kept i → NoneRanOutAt kept i → LeadsToEnd kept i
ended_leads kept i inside ended none =
    let h = there kept i inside in
    (0, (h.0, h.1, ended h.0 h.1, none h.0 h.1))

next_leads : (kept : List BufferedState) (marks : List Bool) (i : ℕ) (move : Move) (k : ℕ) → LeadsToX86 kept i move k → LeadToEnds kept marks →
    slice_get marks k ≡ Some true → LeadsToEnd kept i
next_leads kept marks i move k leads all at =
    let r = all k at in
    (suc r.0, (move, k, leads, r.1))

-- a move of the CPU leads to a marked one
pub edge_leads : (kept : List BufferedState) (marks : List Bool) (i c : ℕ) (e : Edge) → IsEdge kept i c e → (k : ℕ) × GoesTo e k × (slice_get
    marks k ≡ Some true) → LeadToEnds kept marks → LeadsToEnd kept i
edge_leads kept marks i c e is (k, goes, on) all = go goes
  where
    go : GoesTo e k → LeadsToEnd kept i
    go (inl same) = next_leads kept marks i (TurnOf c) k (subst (λ (n : ℕ). LeadsToX86 kept i (TurnOf c) n) same is.turn) all on
    go (inr same) = let leads : FlushLeads kept i c (Some k) = subst (FlushLeads kept i c) same is.flush in
        next_leads kept marks i (FlushOf c) k leads.1 all on

pub flush_inside : (kept : List BufferedState) (i c : ℕ) (e : Edge) → IsEdge kept i c e → IfSome e.flush (λ k. k < length kept)
flush_inside kept i c e is = go e.flush is.flush
  where
    go : (to : Option ℕ) → FlushLeads kept i c to → IfSome to (λ k. k < length kept)
    go None leads = tt
    go (Some k) leads = leads.0

-- its moves lead to what isn't marked
abbrev pub IsOff : List BufferedState → List Bool → ℕ → ℕ → Type 0
IsOff kept marks i c = ((k : ℕ) × LeadsToX86 kept i (TurnOf c) k × (slice_get marks k ≡ Some false))
    × (((k : ℕ) × LeadsToX86 kept i (FlushOf c) k × (slice_get marks k ≡ Some false)) ⊎ CannotMoveAt kept i (FlushOf c))

pub edge_off : (kept : List BufferedState) (marks : List Bool) (i c : ℕ) (e : Edge) → IsEdge kept i c e → ((k : ℕ) → GoesTo e k → slice_get marks
    k ≡ Some false) → IsOff kept marks i c
edge_off kept marks i c e is off = ((e.turn, is.turn, off e.turn (inl refl)), flush e.flush refl is.flush)
  where
    flush : (to : Option ℕ) → e.flush ≡ to → FlushLeads kept i c to → ((k : ℕ) × LeadsToX86 kept i (FlushOf c) k × (slice_get marks k ≡ Some false)) ⊎
        CannotMoveAt kept i (FlushOf c)
    flush None same never = inr never
    flush (Some k) same leads = inl (k, leads.1, off k (inr same))

idle_off : (kept : List BufferedState) (marks : List Bool) (i c : ℕ) → i < length kept → IsIdleAt kept i c → slice_get marks i ≡ Some false
    → IsOff kept marks i c
idle_off kept marks i c inside idle off =
    let h = there kept i inside in
    let moves = (idle h.0 h.1).0 in (
      (i, (h.0, h.0, h.1, just_moved h.0 h.0 (TurnOf c) moves, as_kept true kept i h.0 h.1), off),
      inr (λ m at. (idle m at).1),
    )

-- so do those of the CPUs below a number
abbrev pub OffBelow : List BufferedState → List Bool → ℕ → ℕ → Type 0
OffBelow kept marks i n = (c : ℕ) → c < n → IsOff kept marks i c

pub next_off : (kept : List BufferedState) (marks : List Bool) (i n : ℕ) → OffBelow kept marks i n → IsOff kept marks i n → OffBelow kept marks i (n + 1)
next_off kept marks i n far here c less = elim (cases_lt c n) [
  | inl below ↦ far c below
  | inr past ↦ let e : n ≡ c = omega arith in subst (IsOff kept marks i) e here
]

pub is_stuck : (kept : List BufferedState) (marks : List Bool) (i n cpus : ℕ) → i < length kept → (HaveEndedAt kept i → ⊥) → NoneRanOutAt kept i →
    ((c : ℕ) → cpus ≤ c → IsIdleAt kept i c) → cpus ≤ n → OffBelow kept marks i n → slice_get marks i ≡ Some false → IsStuckX86 kept marks i
is_stuck kept marks i n cpus inside works none idle past far off = record {
  works = λ m at ended. works (λ other at_other. (
      let two : Some m ≡ Some other = sym at ∙ at_other in
      let one : m ≡ other = cc in
      subst (λ (x : BufferedState). HaveEnded x.machine.jobs) one ended));
  none = none;
  turns = λ c. (all c).0;
  flushes = λ c. (all c).1;
}
  where
    all : (c : ℕ) → IsOff kept marks i c
    all c = elim (cases_lt c n) [ inl below ↦ far c below | inr above ↦ idle_off kept marks i c inside (idle c (omega arith)) off ]

-- ---- marks
pub none_marked : (kept : List BufferedState) (n : ℕ) → LeadToEnds kept (replicate n false)
none_marked kept n i at = absurd (never n i at)
  where
    never : (n i : ℕ) → slice_get (replicate n false) i ≡ Some true → ⊥
    never zero i at = cc
    never (suc n) zero at = cc
    never (suc n) (suc i) at = never n i at

pub one_more_marked : (kept : List BufferedState) (marks : List Bool) (i : ℕ) (was : Bool) → slice_get marks i ≡ Some was → LeadToEnds kept marks →
    LeadsToEnd kept i → LeadToEnds kept (slice_set marks i true)
one_more_marked kept marks i was at_first all leads k at = elim (equal_or_not k i) [
  | inl e ↦ subst (LeadsToEnd kept) (sym e) leads
  | inr ne ↦ all k (sym (slice_get-set_other marks i k true ne) ∙ at)
]

-- those from a place on
abbrev pub StuckFrom : List BufferedState → List Bool → ℕ → Type 0
StuckFrom kept marks n = (i : ℕ) → n ≤ i → slice_get marks i ≡ Some false → IsStuckX86 kept marks i

pub next_stuck_from : (kept : List BufferedState) (old new : List Bool) (count step place : ℕ) → step < count → place ≡ count - 1 - step → StuckFrom
    kept old (count - step) → new ≡ old → (slice_get old place ≡ Some false → IsStuckX86 kept old place) → StuckFrom kept new (count - (step + 1))
next_stuck_from kept old new count step place less here far same one =
    subst (λ (marks : List Bool). StuckFrom kept marks (count - (step + 1))) (sym same) (λ i past off. elim (cases_lt i (count - step)) [
      | inl below ↦
          let e : place ≡ i = omega arith in
          subst (IsStuckX86 kept old) e (one (ap (slice_get old) e ∙ off))
      | inr above ↦ far i above off
    ])

pub all_stuck : (kept : List BufferedState) (marks : List Bool) (count step : ℕ) → count ≤ step → StuckFrom kept marks (count - step) → AreStuckX86 kept marks
all_stuck kept marks count step past far i off = far i (omega arith) off
