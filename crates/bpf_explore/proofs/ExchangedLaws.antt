-- Schedules to hung states, while the CPUs of equal jobs are exchanged.
use Rattle.std.proofs.Common.{◌≡◌, ◌∙◌, ℕ, ◌+◌, ◌<◌, ◌≤◌, Bool, List, [], ◌∷◌, ◌++◌, Some, inl, inr, length, map, refl, sym, ap, subst}
use Rattle.std.proofs.Common.{append-nil, append_assoc, arith}
use Rattle.std.specs.Prelude.{slice_get, slice_index_or}
use Rattle.std.proofs.lemmas.Bool.{cases_lt}
use Rattle.std.proofs.lemmas.Option.{slice_get_within, slice_get-get_or, get_or_from_slice_get}
use Rattle.bpf_base.proofs.Lists.{slice_get-append, slice_get-front}
use Rattle.bpf_machine.specs.Machine.{MachineState}
use Rattle.bpf_machine.specs.Schedule.{RunsSchedule, unrolled}
use Rattle.bpf_equal.specs.declared.peers.Peer.{Peer}
use Rattle.bpf_equal.specs.Patient.{AreAllExchanged, HungAreExchanged}
use Rattle.bpf_equal.specs.Peers.{AreOneGroup}
use Rattle.bpf_equal.specs.Permutations.{exchanged}
use Rattle.bpf_explore.specs.Private.Exchanged.{AreClosedBelow, Grows, IsListedAround, IsListedFor, IsListedFrom}
use Rattle.bpf_explore.specs.Private.Hung.{AllBeyondBelow, Hangs, IsAmong, StaysFirst}
use Rattle.bpf_explore.proofs.HungLaws.{one_more_hung}

abbrev Hung : Type 0
Hung = List (List (ℕ × ℕ))

-- ---- more is listed
pub grows_not : (peers : List Peer) (hung : Hung) → Grows peers hung hung
grows_not peers hung = record { longer = ([], sym (append-nil hung)); hang = λ kept stays all. all }

pub grows_on : (peers : List Peer) (old mid new : Hung) → Grows peers old mid → Grows peers mid new → Grows peers old new
grows_on peers old mid new a b = record {
  longer = (
    a.longer.0 ++ b.longer.0,
    b.longer.1 ∙ (ap (λ (hs : Hung). hs ++ b.longer.0) a.longer.1 ∙ append_assoc old a.longer.0 b.longer.0),
  );
  hang = λ kept stays all. b.hang kept stays (a.hang kept stays all);
}

pub at_still : (peers : List Peer) (old new : Hung) → Grows peers old new → (n : ℕ) (by : List (ℕ × ℕ)) → slice_get old n ≡ Some by
    → slice_get new n ≡ Some by
at_still peers old new grows n by at =
    ap (λ (hs : Hung). slice_get hs n) grows.longer.1
    ∙ (slice_get-front old grows.longer.0 n (slice_get_within old n by at) ∙ at)

pub among_still : (peers : List Peer) (old new : Hung) → Grows peers old new → (by : List (ℕ × ℕ)) → IsAmong old by → IsAmong new by
among_still peers old new grows by (n, at) = (n, at_still peers old new grows n by at)

pub for_still : (peers : List Peer) (old new : Hung) (by : List (ℕ × ℕ)) (j k : ℕ) → Grows peers old new → IsListedFor peers old by j k
    → IsListedFor peers new by j k
for_still peers old new by j k grows listed one other group =
    let r = listed one other group in
    (r.0, r.1, at_still peers old new grows r.0 r.1 r.2, r.3)

-- the schedule before is this one
pub as_exchanged : (f : ℕ → ℕ) (new old by : List (ℕ × ℕ)) → unrolled new ≡ map f (unrolled old) → old ≡ by → unrolled new ≡ map f (unrolled by)
as_exchanged f new old by is same = is ∙ ap (λ (rs : List (ℕ × ℕ)). map f (unrolled rs)) same

-- ---- one more
module _ (peers : List Peer) (j k : ℕ) (d e : Peer) (by new : List (ℕ × ℕ))
    (is : unrolled new ≡ map (exchanged (slice_index_or peers j d).cpu (slice_index_or peers k e).cpu) (unrolled by)) where
  pub listed_so : (hung : Hung) → IsAmong hung new → IsListedFor peers hung by j k
  listed_so hung (n, at) p q group = (
    n,
    new,
    at,
    is ∙ (ap (λ (x : Peer). map (exchanged x.cpu (slice_index_or peers k e).cpu) (unrolled by)) (get_or_from_slice_get peers j p d group.first)
        ∙ ap (λ (x : Peer). map (exchanged p.cpu x.cpu) (unrolled by)) (get_or_from_slice_get peers k q e group.second)),
  )

  module _ (law : HungAreExchanged) (less : j < k) (within : k < length peers)
      (same : (slice_index_or peers j d).group ≡ (slice_index_or peers k e).group) where
    hangs_so : (kept : List MachineState) → StaysFirst peers kept → Hangs kept by → Hangs kept new
    hangs_so kept stays hangs w fresh first =
        let h = hangs w fresh first in
        let p = slice_index_or peers j d in
        let q = slice_index_or peers k e in
        let group : AreOneGroup peers j k p q = record {
          first = slice_get-get_or peers j d (omega (arith, less, within));
          second = slice_get-get_or peers k e within;
          group = sym same;
        } in
        let r = law peers w h.0 (unrolled by) p.cpu q.cpu (stays w fresh first) (j, k, p, q, less, group, refl, refl) h.1 h.2 h.3 in
        (r.0, subst (λ (cs : List ℕ). RunsSchedule w cs r.0) (sym is) r.1, r.2, r.3)

    pub grows_so : (old pushed : Hung) → IsAmong old by → pushed ≡ old ++ new ∷ [] → Grows peers old pushed
    grows_so old pushed (n, at) push = record {
      longer = (new ∷ [], push);
      hang = λ kept stays all. one_more_hung kept old pushed new all (hangs_so kept stays (all n by at)) push;
    }

pub pushed_among : (old pushed : Hung) (new : List (ℕ × ℕ)) → pushed ≡ old ++ new ∷ [] → IsAmong pushed new
pushed_among old pushed new push = (
  length old,
  ap (λ (hs : Hung). slice_get hs (length old)) push ∙ slice_get-append old (new ∷ []) 0 (length old) (omega arith),
)

-- ---- loops
pub from_on : (peers : List Peer) (old new : Hung) (by : List (ℕ × ℕ)) (j k : ℕ) → Grows peers old new → IsListedFrom peers old by j k
    → IsListedFor peers new by j k → IsListedFrom peers new by j (k + 1)
from_on peers old new by j k grows far here i less below = elim (cases_lt i k) [
  | inl before ↦ for_still peers old new by j i grows (far i less before)
  | inr past ↦ let e : k ≡ i = omega arith in subst (IsListedFor peers new by j) e here
]

pub around_on : (peers : List Peer) (old new : Hung) (by : List (ℕ × ℕ)) (n : ℕ) → Grows peers old new → IsListedAround peers old by n
    → IsListedFrom peers new by n (length peers) → IsListedAround peers new by (n + 1)
around_on peers old new by n grows far here j k below less = elim (cases_lt j n) [
  | inl before ↦ for_still peers old new by j k grows (far j k before less)
  | inr past ↦
      let e : n ≡ j = omega arith in
      λ one other group.
      let inside = slice_get_within peers k other group.second in
      subst (λ (i : ℕ). IsListedFor peers new by i k) e (here k (omega (arith, e, less)) inside) one other group
]

pub none_closed : (peers : List Peer) (hung : Hung) → AreClosedBelow peers hung 0
none_closed peers hung i j k by less = absurd (omega (arith, less))

pub closed_on : (peers : List Peer) (old new : Hung) (by : List (ℕ × ℕ)) (n : ℕ) → Grows peers old new → slice_get old n ≡ Some by
    → AreClosedBelow peers old n → IsListedAround peers new by (length peers) → AreClosedBelow peers new (n + 1)
closed_on peers old new by n grows at far around i j k it below there less = elim (cases_lt i n) [
  | inl before ↦
      let inside = slice_get_within old n by at in
      let was : slice_get old i ≡ Some it = sym (slice_get-front old grows.longer.0 i (omega arith))
      ∙ (ap (λ (hs : Hung). slice_get hs i) (sym grows.longer.1) ∙ there) in
      for_still peers old new it j k grows (far i j k it before was less)
  | inr past ↦
      let e : n ≡ i = omega arith in
      let two : Some by ≡ Some it = sym (at_still peers old new grows n by at) ∙ (ap (slice_get new) e ∙ there) in
      let same : by ≡ it = cc in
      λ one other group.
      let inside = slice_get_within peers j one group.first in
      subst (λ (b : List (ℕ × ℕ)). IsListedFor peers new b j k) same (around j k inside less) one other group
]

pub all_closed : (peers : List Peer) (hung : Hung) (n : ℕ) → length hung ≤ n → AreClosedBelow peers hung n → AreAllExchanged peers hung
all_closed peers hung n past closed i c d by at (j, k, one, other, less, group, is_c, is_d) =
    let inside = slice_get_within hung i by at in
    let r = closed i j k by (omega arith) at less one other group in (
      r.0,
      r.1,
      r.2,
      r.3 ∙ (ap (λ (x : ℕ). map (exchanged x other.cpu) (unrolled by)) is_c ∙ ap (λ (x : ℕ). map (exchanged c x) (unrolled by)) is_d),
    )

-- what was beyond one of them is
pub beyond_grown : (peers : List Peer) (kept : List MachineState) (marks : List Bool) (old new : Hung) (n : ℕ) → Grows peers old new
    → AllBeyondBelow kept marks old n → AllBeyondBelow kept marks new n
beyond_grown peers kept marks old new n grows all i less off =
    let r = all i less off in
    (r.0, r.1, r.2, at_still peers old new grows r.0 r.1 r.3, r.4, r.5)
