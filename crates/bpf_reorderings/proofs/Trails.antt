-- Moves that lead to kept machines, one after the other and backwards.
use Rattle.std.proofs.Common.{◌≡◌, ◌∙◌, ℕ, zero, suc, ◌+◌, ◌<◌, Bool, true, false, List, [], ◌∷◌, ◌++◌, Some, inl, inr, ◌⊎◌, length, map}
use Rattle.std.proofs.Common.{take, replicate, reverse, refl, sym}
use Rattle.std.proofs.Common.{ap, subst, length-append, arith}
use Rattle.std.specs.Prelude.{slice_get, slice_index_or}
use Rattle.std.proofs.Math.ListN.{get_or-append}
use Rattle.std.proofs.Math.Seq.{get_or-append_seam}
use Rattle.std.proofs.lemmas.Bool.{cases_lt}
use Rattle.std.proofs.lemmas.List.{map-append, take_all, take-append-le}
use Rattle.std.proofs.lemmas.Option.{slice_get_within, slice_get_read, get_or_from_slice_get}
use Rattle.bpf_base.proofs.Lists.{slice_get-front}
use Rattle.bpf_machine.specs.Schedule.{unrolled}
use Rattle.bpf_x86.specs.Machine.{X86, Move}
use Rattle.bpf_buffering.specs.Search.{BufferedState, ShowsX86, move_of}
use Rattle.bpf_buffering.specs.Album.{IsShownAt}
use Rattle.bpf_flushes.proofs.Joining.{runs_both}
use Rattle.bpf_patience.proofs.Joining.{free_nowhere, free_both}
use Rattle.bpf_reorderings.specs.declared.explorer.Origin.{Origin}
use Rattle.bpf_reorderings.specs.Private.Trail.{no_origin, origin_at, moves_of, Runs, LeadsBy, IsOrigin, AreOrigins, IsLedFrom}
use Rattle.bpf_reorderings.specs.Private.Searching.{AreLed}

-- ---- runs of both kinds
runs_nowhere : (patient : Bool) (x : X86) → Runs patient x [] x
runs_nowhere false x = refl
runs_nowhere true x = free_nowhere x

runs_join : (patient : Bool) (ms ns : List Move) (x m z : X86) → Runs patient x ms m → Runs patient m ns z → Runs patient x (ms ++ ns) z
runs_join false ms ns x m z first second = runs_both ms ns x m z first second
runs_join true ms ns x m z first second = free_both ms ns x m z first second

-- ---- origins
pub read_origin : (origins : List Origin) (i : ℕ) (o : Origin) → i < length origins → o ≡ slice_index_or origins i o → origin_at origins i ≡ o
read_origin origins i o inside read = get_or_from_slice_get origins i o no_origin (slice_get_read origins (length origins) i o refl inside read)

at_last : (old : List BufferedState) (one : BufferedState) → slice_get (old ++ one ∷ []) (length old) ≡ Some one
at_last [] one = refl
at_last (x ∷ xs) one = at_last xs one

-- at most this one more is kept
abbrev pub AddsOne : List BufferedState → BufferedState → List BufferedState → Type 0
AddsOne old m new = (new ≡ old) ⊎ (new ≡ old ++ m ∷ [])

module _ (patient : Bool) where
  -- ---- one after the other
  pub leads_both : (kept : List BufferedState) (i j k : ℕ) (ms ns : List Move) → LeadsBy patient kept i ms j → LeadsBy patient kept j ns k →
      LeadsBy patient kept i (ms ++ ns) k
  leads_both kept i j k ms ns first second x shown =
      let a = first x shown in
      let b = second a.0 a.2 in
      (b.0, runs_join patient ms ns x a.0 b.0 a.1 b.1, b.2)

  pub leads_nowhere : (kept : List BufferedState) (i : ℕ) → LeadsBy patient kept i [] i
  leads_nowhere kept i x shown = (x, runs_nowhere patient x, shown)

  -- ---- back
  pub one_back : (kept : List BufferedState) (origins : List Origin) (state place : ℕ) (o : Origin) (by new : List (ℕ × ℕ)) → AreOrigins patient kept
      origins → 0 < state → state < length kept → origin_at origins state ≡ o
      → LeadsBy patient kept state (map move_of (unrolled (reverse by))) place
      → unrolled (reverse new) ≡ replicate (o.more + 1) o.made ++ unrolled (reverse by)
      → (o.«from» < length kept) × (o.«from» < state) × LeadsBy patient kept o.«from» (map move_of (unrolled (reverse new))) place
  one_back kept origins state place o by new are some inside at leads e =
      let is = subst (IsOrigin patient kept state) at (are.each state some inside) in
      let before = is.before in (
        omega arith,
        before,
        subst (λ (cs : List ℕ). LeadsBy patient kept o.«from» (map move_of cs) place) (sym e)
            (subst (λ (ms : List Move). LeadsBy patient kept o.«from» ms place)
            (sym (map-append move_of (replicate (o.more + 1) o.made) (unrolled (reverse by))))
            (leads_both kept o.«from» state place (moves_of o) (map move_of (unrolled (reverse by))) is.leads leads)),
      )

  -- ---- while more are kept
  module _ (old more : List BufferedState) where
    shown_still : (i : ℕ) (x : X86) → IsShownAt old i x → IsShownAt (old ++ more) i x
    shown_still i x (m, at, shows) = (m, slice_get-front old more i (slice_get_within old i m at) ∙ at, shows)

    shown_before : (i : ℕ) (x : X86) → i < length old → IsShownAt (old ++ more) i x → IsShownAt old i x
    shown_before i x inside (m, at, shows) = (m, sym (slice_get-front old more i inside) ∙ at, shows)

    leads_still : (i j : ℕ) (ms : List Move) → i < length old → LeadsBy patient old i ms j → LeadsBy patient (old ++ more) i ms j
    leads_still i j ms inside leads x shown = let r = leads x (shown_before i x inside shown) in (r.0, r.1, shown_still j r.0 r.2)

    origin_still : (i : ℕ) (o : Origin) → i < length old → IsOrigin patient old i o → IsOrigin patient (old ++ more) i o
    origin_still i o inside is = record { before = is.before; leads = leads_still o.«from» i (moves_of o) (let b = is.before in omega arith) is.leads }

  -- the moves of an origin lead to the machine that is kept after the others
  led_last : (old : List BufferedState) (m : BufferedState) (o : Origin) → o.«from» < length old → IsLedFrom patient old o.«from» (moves_of o) m →
      LeadsBy patient (old ++ m ∷ []) o.«from» (moves_of o) (length old)
  led_last old m o inside (before, at, moves) x shown =
      let (other, there, shows) = shown_before old (m ∷ []) o.«from» x inside shown in
      let two : Some other ≡ Some before = sym there ∙ at in
      let one : other ≡ before = cc in
      let r = moves x (subst (λ (n : BufferedState). ShowsX86 n x) one shows) in
      (r.0, r.1, (m, at_last old m, r.2))

  kept_origins : (old new : List BufferedState) (m : BufferedState) (origins : List Origin) (o : Origin) → AreOrigins patient old origins → o.«from» <
      length old → IsLedFrom patient old o.«from» (moves_of o) m → AddsOne old m new → AreOrigins patient new (take (length new) (origins ++ o ∷ []))
  kept_origins old new m origins o are inside led (inl e) =
      let count = are.count in
      let size : length new ≡ length origins = ap (λ (ms : List BufferedState). length ms) e ∙ sym count in
      let all : take (length new) (origins ++ o ∷ []) ≡ origins = take-append-le (length new) origins (o ∷ []) (omega arith) ∙ take_all
      (length new) origins (omega arith) in
      subst (λ (ms : List BufferedState). AreOrigins patient ms (take (length new) (origins ++ o ∷ []))) (sym e) (subst (AreOrigins patient old) (sym all) are)
  kept_origins old new m origins o are inside led (inr e) =
      let count = are.count in
      let both = length-append origins (o ∷ []) in
      let more = length-append old (m ∷ []) in
      let size : length new ≡ length (old ++ m ∷ []) = ap (λ (ms : List BufferedState). length ms) e in
      let all : take (length new) (origins ++ o ∷ []) ≡ origins ++ o ∷ [] = take_all (length new) (origins ++ o ∷ []) (omega arith) in
      let now : AreOrigins patient (old ++ m ∷ []) (origins ++ o ∷ []) = record {
        count = omega arith;
        each = λ i some less. elim (cases_lt i (length old)) [
          | inl below ↦
              subst (IsOrigin patient (old ++ m ∷ []) i) (sym (get_or-append origins (o ∷ []) no_origin i (omega arith)))
              (origin_still old (m ∷ []) i (origin_at origins i) below (are.each i some below))
          | inr past ↦
              let last : i ≡ length old = omega arith in
              let place : length origins ≡ i = omega arith in
              let at : origin_at (origins ++ o ∷ []) i ≡ o = ap (origin_at (origins ++ o ∷ [])) (sym place) ∙ get_or-append_seam origins o [] no_origin in
              subst (IsOrigin patient (old ++ m ∷ []) i) (sym at) (subst (λ (k : ℕ). IsOrigin patient (old ++ m ∷ []) k o) (sym last)
              (record { before = inside; leads = led_last old m o inside led }))
        ];
      } in
      subst (λ (ms : List BufferedState). AreOrigins patient ms (take (length new) (origins ++ o ∷ []))) (sym e)
      (subst (AreOrigins patient (old ++ m ∷ [])) (sym all) now)

  -- as many of the origins as machines are kept
  pub cut_origins : (old new : List BufferedState) (m : BufferedState) (origins pushed cut : List Origin) (o : Origin) (n : ℕ) → AreOrigins patient
      old origins → o.«from» < length old → IsLedFrom patient old o.«from» (moves_of o) m → AddsOne old m new
      → pushed ≡ origins ++ o ∷ [] → n ≡ length new → cut ≡ take n pushed → AreOrigins patient new cut
  cut_origins old new m origins pushed cut o n are inside led adds push count is =
      subst (AreOrigins patient new) (sym (is ∙ (ap (λ (k : ℕ). take k pushed) count ∙ ap (take (length new)) push)))
      (kept_origins old new m origins o are inside led adds)

  -- ---- a schedule to each
  led_below : (kept : List BufferedState) (origins : List Origin) → AreOrigins patient kept origins → (n i : ℕ) → i < n → i < length kept →
      (schedule : List ℕ) × LeadsBy patient kept 0 (map move_of schedule) i
  led_below kept origins are zero i less inside = absurd (omega arith)
  led_below kept origins are (suc n) zero less inside = ([], leads_nowhere kept 0)
  led_below kept origins are (suc n) (suc i) less inside =
      let o = origin_at origins (suc i) in
      let is = are.each (suc i) (omega arith) inside in
      let before = is.before in
      let far = led_below kept origins are n o.«from» (omega arith) (omega arith) in (
        far.0 ++ replicate (o.more + 1) o.made,
        subst (λ (ms : List Move). LeadsBy patient kept 0 ms (suc i)) (sym (map-append move_of far.0 (replicate (o.more + 1) o.made)))
            (leads_both kept 0 o.«from» (suc i) (map move_of far.0) (moves_of o) far.1 is.leads),
      )

  pub are_led : (kept : List BufferedState) (origins : List Origin) → AreOrigins patient kept origins → AreLed patient kept
  are_led kept origins are i inside = led_below kept origins are (suc i) i (omega arith) inside
