-- Lines that are closed under what they are answered have the report of each end.
use Rattle.std.proofs.Common.{◌≡◌, ◌∙◌, ◌⊎◌, Bool, true, false, ℕ, zero, suc, List, [], ◌∷◌, Option, Some, None, Result, Ok, Err, length}
use Rattle.std.proofs.Common.{map, inl, inr, refl, sym, ap, subst}
use Rattle.std.specs.Prelude.{◌≢◌, All, option_map, slice_get, slice_index_or}
use Rattle.std.proofs.lemmas.Bool.{cases_lt}
use Rattle.std.proofs.lemmas.List.{get_or_past}
use Rattle.std.proofs.lemmas.List.Elements.{All-head, All-tail}
use Rattle.std.proofs.lemmas.Option.{slice_get-map}
use Rattle.hex.specs.Hex.{decode_of}
use Rattle.bpf_shared.specs.declared.events.Event.{Event}
use Rattle.bpf_names.specs.Names.{Names}
use Rattle.bpf_plain.specs.Alike.{AlikeStandAlike, SavedAlikeLookAlike}
use Rattle.bpf_cpu.specs.Task.{Waiting, InHand, Ended}
use Rattle.bpf_machine.specs.Hands.{IsFree, NoneWaits}
use Rattle.bpf_machine.specs.Laws.{IsFresh}
use Rattle.bpf_machine.specs.Rounds.{HaveEnded}
use Rattle.bpf_machine.specs.Schedule.{World}
use Rattle.bpf_x86.specs.Machine.{X86, Move, TurnOf, FlushOf, RunsMoves, drained}
use Rattle.bpf_buffering.specs.declared.waiting.Stored.{Stored}
use Rattle.bpf_buffering.specs.Waiting.{event_of}
use Rattle.bpf_buffering.specs.Search.{BufferedState, ShowsX86, IsShownX86, buffer_at}
use Rattle.bpf_expand.specs.State.{Host}
use Rattle.bpf_expand.specs.Laws.{FitBudgets, HasLine, IsAmong}
use Rattle.bpf_buffer_expand.specs.declared.successor.Successor.{Successor}
use Rattle.bpf_buffer_expand.specs.Filter.{IsReportIn}
use Rattle.bpf_buffer_expand.specs.State.{AreSuccessors, HasNone, HasNoneIn, HasSome, HasSomeIn, HasSuccessor, IsStateOf, IsSuccessor, move_of}
use Rattle.bpf_buffer_expand.specs.Laws.{AreAnswered, AreClosed, AreOf, IsAnswered, IsReported, LinesCoverX86, PatientStatesCoverX86, StatesCoverX86}
use Rattle.bpf_buffer_expand.proofs.Alike.{jobs_too, shows_too}

-- ---- where all jobs have ended nothing moves
none_at : (ws : List (List Stored)) (c : ℕ) → slice_index_or ws c [] ≡ [] → buffer_at (map (map event_of) ws) c ≡ []
none_at [] c is = refl
none_at (w ∷ ws) zero is = ap (map event_of) is
none_at (w ∷ ws) (suc c) is = none_at ws c is

module _ (h : Host) (bytes : List ℕ) (m : BufferedState) (is : IsStateOf h m bytes) (ended : HaveEnded m.machine.jobs) where
  free : (c : ℕ) → IsFree m.machine.jobs c
  free c j task state left here =
      let end = ended j task here.listed in
      let both : InHand state left ≡ Ended end.0 = sym here.at ∙ end.1 in cc

  none_waits : (c : ℕ) → NoneWaits m.machine.jobs c
  none_waits c j task input here =
      let end = ended j task here.listed in
      let both : Waiting input ≡ Ended end.0 = sym here.at ∙ end.1 in cc

  -- no run is there that may have stored what waits
  nothing_waits : (c : ℕ) → slice_index_or is.waiting c [] ≡ []
  nothing_waits c = elim (cases_lt c (length is.waiting)) [
    | inl inside ↦ elim (is.fit.each c inside) [
      | inl none ↦ none
      | inr (j, task, state, left, here, stored) ↦ absurd (free c j task state left here)
    ]
    | inr past ↦ get_or_past is.waiting c [] past
  ]

  pub has_none : (move : Move) → HasNone m move
  has_none (TurnOf c) = (free c, none_waits c)
  has_none (FlushOf c) = ap (λ (l : List (List Event)). buffer_at l c) is.buffers ∙ none_at is.waiting c (nothing_waits c)

none_and_some : (m : BufferedState) (move : Move) → HasNone m move → HasSome m move → ⊥
none_and_some m (TurnOf c) (free, none) (j, inl (task, state, left, here)) = free j task state left here
none_and_some m (TurnOf c) (free, none) (j, inr (others, (task, input, here), lower)) = none j task input here
none_and_some m (FlushOf c) none some = some none

-- so no moves are printed there
none_found : (h : Host) (bytes : List ℕ) (m : BufferedState) → IsStateOf h m bytes → HaveEnded m.machine.jobs → (found : List Successor)
    → AreSuccessors h bytes found → found ≢ [] → ⊥
none_found h bytes m is ended [] are some = some refl
none_found h bytes m is ended (s ∷ found) are some =
    let moves : HasSomeIn h bytes (move_of s) = All-head (λ s. HasSomeIn h bytes (move_of s)) s found are.work in
    none_and_some moves.0 (move_of s)
    (has_none h bytes moves.0 moves.1 (subst HaveEnded (jobs_too h m moves.0 bytes is moves.1) ended) (move_of s)) moves.2

-- ---- the states that lines are
abbrev decoded : {E : Type 0} → Result (List ℕ) E → List ℕ
decoded (Ok bytes) = bytes
decoded (Err e) = []

abbrev state_of : List ℕ → List ℕ
state_of line = decoded (decode_of line)

-- ---- what is reported
module _ (look : SavedAlikeLookAlike) (stand : AlikeStandAlike) (h : Host) (names : Names) (lines : List (List ℕ)) (answered : AreAnswered h names lines) where
  all : List (List ℕ)
  all = map state_of lines

  is_among : (bytes : List ℕ) → HasLine lines bytes → IsAmong all bytes
  unfolding all
  is_among bytes (line, (i, at), is) =
      (i, slice_get-map state_of lines i ∙ (ap (λ (o : Option (List ℕ)). option_map state_of o) at ∙ ap (λ r. Some (decoded r)) is))

  line_of : (bytes : List ℕ) (i : ℕ) (o : Option (List ℕ)) → slice_get lines i ≡ o → option_map state_of o ≡ Some bytes → HasLine lines bytes
  line_of bytes i None at is = cc
  line_of bytes i (Some line) at is =
      let a = answered line (i, at) in
      let one : state_of line ≡ bytes = cc in
      (line, (i, at), a.1 ∙ ap (λ (b : List ℕ). Ok b) (sym (ap decoded a.1) ∙ one))

  has_line : (bytes : List ℕ) → IsAmong all bytes → HasLine lines bytes
  unfolding all
  has_line bytes (i, at) = line_of bytes i (slice_get lines i) refl (sym (slice_get-map state_of lines i) ∙ at)

  successor_at : (found : List Successor) → All (λ s. HasLine lines s.bytes.items) found → (i : ℕ) (s : Successor) → slice_get found i ≡
      Some s → HasLine lines s.bytes.items
  successor_at [] have i s at = cc
  successor_at (x ∷ xs) have zero s at =
      let same : x ≡ s = cc in
      subst (λ (s : Successor). HasLine lines s.bytes.items) same (All-head (λ s. HasLine lines s.bytes.items) x xs have)
  successor_at (x ∷ xs) have (suc i) s at = successor_at xs (All-tail (λ s. HasLine lines s.bytes.items) x xs have) i s at

  abbrev Closed : List ℕ → Move → Type 0
  Closed bytes move = HasNoneIn h bytes move
      ⊎ ((c n : ℕ) × (next : List ℕ) × IsSuccessor h bytes move c n next × IsAmong all next)

  leads_on : (bytes : List ℕ) (move : Move) (found : List Successor) → All (λ s. HasLine lines s.bytes.items) found
      → (HasNoneIn h bytes move ⊎ HasSuccessor h bytes found move) → Closed bytes move
  leads_on bytes move found have (inl none) = inl none
  leads_on bytes move found have (inr (i, s, at, of, is)) =
      inr (s.cpu, s.ahead, s.bytes.items, is, is_among s.bytes.items (successor_at found have i s at))

  closed_by : (line bytes : List ℕ) (move : Move) → decode_of line ≡ Ok bytes → IsAnswered h names lines line → Closed bytes move
  closed_by line bytes move is (b, same, inl (found, are, some, have)) =
      let one : b ≡ bytes = cc (sym same ∙ is) in
      leads_on bytes move found have (subst (λ (b : List ℕ). HasNoneIn h b move ⊎ HasSuccessor h b found move) one (are.all move))
  closed_by line bytes move is (b, same, inr (report, (m, state, ended, told))) =
      let one : b ≡ bytes = cc (sym same ∙ is) in
      inl (subst (λ (b : List ℕ). HasNoneIn h b move) one (m, state, has_none h b m state ended move))

  are_closed : AreClosed h all
  are_closed bytes move among = let l = has_line bytes among in closed_by l.0 bytes move l.2 (answered l.0 l.1)

  -- the line of an end is answered by its report
  report_of : (line bytes : List ℕ) (m : BufferedState) → decode_of line ≡ Ok bytes → IsStateOf h m bytes → HaveEnded m.machine.jobs
      → IsAnswered h names lines line → (report : List ℕ) × IsReportIn h names bytes report
  report_of line bytes m is state ended (b, same, inl (found, are, some, have)) =
      let one : b ≡ bytes = cc (sym same ∙ is) in
      absurd (none_found h bytes m state ended found (subst (λ (b : List ℕ). AreSuccessors h b found) one are) some)
  report_of line bytes m is state ended (b, same, inr (report, told)) =
      let one : b ≡ bytes = cc (sym same ∙ is) in
      (report, subst (λ (b : List ℕ). IsReportIn h names b report) one told)

  reported : (z : X86) (bytes : List ℕ) (m : BufferedState) → HaveEnded z.world.jobs → HasLine lines bytes → IsStateOf h m bytes → ShowsX86 m z
      → IsReported h names lines z
  reported z bytes m ended (line, among, is) state shows =
      let r = report_of line bytes m is state (subst HaveEnded shows.world.jobs ended) (answered line among) in
      (bytes, r.0, r.1.3.0, (line, among, is), r.1, r.1.3.1 z (shows_too h m r.1.0 bytes state r.1.1 look stand z shows))

-- a machine of a line shows the end
abbrev IsShownAtEnd : Host → List (List ℕ) → X86 → Type 0
IsShownAtEnd h states z = (machines : List BufferedState) × AreOf h states machines × IsShownX86 machines z

shown_at_end : StatesCoverX86 → PatientStatesCoverX86 → (h : Host) (states : List (List ℕ)) (first : BufferedState) (bytes : List ℕ) (w : World)
    (moves : List Move) (z : X86) (patient : Bool) → h.patient ≡ patient → AreClosed h states → IsStateOf h first bytes → IsAmong states bytes
    → IsFresh w → ShowsX86 first (drained w) → RunsMoves (drained w) moves z → FitBudgets h.patient z.world.jobs → HaveEnded z.world.jobs
    → IsShownAtEnd h states z
shown_at_end cover patiently h states first bytes w moves z false exact closed is among fresh shown runs fit ended =
    cover h states first bytes w moves z exact closed is among fresh shown runs ended
shown_at_end cover patiently h states first bytes w moves z true passes closed is among fresh shown runs fit ended =
    patiently h states first bytes w moves z passes closed is among fresh shown runs ended (fit passes)

pub lines_cover : SavedAlikeLookAlike → AlikeStandAlike → StatesCoverX86 → PatientStatesCoverX86 → LinesCoverX86
lines_cover look stand cover patiently h names lines first bytes w moves z answered is has fresh shown runs fit ended =
    at_end (shown_at_end cover patiently h (all look stand h names lines answered) first bytes w moves z h.patient refl
    (are_closed look stand h names lines answered) is (is_among look stand h names lines answered bytes has) fresh shown runs fit ended)
  where
    at_end : IsShownAtEnd h (all look stand h names lines answered) z → IsReported h names lines z
    at_end (machines, of, (i, m, at, shows)) =
        let b = of i m at in
        reported look stand h names lines answered z b.0 m ended (has_line look stand h names lines answered b.0 b.1) b.2 shows
