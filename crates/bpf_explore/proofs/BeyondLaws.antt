-- From what a kept machine that leads to an end covers one can be reached; what else is covered lies
-- beyond a hung state that is listed.
use Rattle.std.proofs.Common.{◌≡◌, ◌<◌, ◌⊎◌, ℕ, zero, suc, Bool, true, false, List, [], ◌∷◌, Some, inl, inr, length, refl, sym, subst, arith}
use Rattle.std.specs.Prelude.{slice_get}
use Rattle.std.proofs.lemmas.Option.{slice_get_within}
use Rattle.bpf_machine.specs.Schedule.{World, unrolled}
use Rattle.bpf_machine.specs.Laws.{IsFresh}
use Rattle.bpf_machine.specs.Machine.{MachineState, Shows}
use Rattle.bpf_machine.specs.Headways.{with_jobs}
use Rattle.bpf_machine.specs.Ends.{CanEnd}
use Rattle.bpf_machine.proofs.EndLaws.{one_machine}
use Rattle.bpf_machine.proofs.PatientLaws.{all_same}
use Rattle.bpf_equal.specs.declared.peers.Peer.{Peer}
use Rattle.bpf_equal.specs.Covers.{IsCoveredPermutedRichly}
use Rattle.bpf_equal.specs.Patient.{AreAllExchanged, BeyondIsExchanged, CoveredLieBeyond, LiesBeyondOne, PermutedCanEnd}
use Rattle.bpf_explore.specs.Private.Answers.{IsFirst}
use Rattle.bpf_explore.specs.Private.Ends.{LeadsToEnd, AreMarked}
use Rattle.bpf_explore.specs.Private.Hung.{StaysFirst, IsBeyondOne, AllBeyondBelow, AllLeadOrBeyond}
use Rattle.bpf_explore.proofs.TrailLaws.{gift_first}

-- ---- to an end, or beyond a listed state
module _ (ending : PermutedCanEnd) (covered : CoveredLieBeyond) (exchanged : BeyondIsExchanged) (peers : List Peer) (kept : List MachineState)
    (w z : World) (hung : List (List (ℕ × ℕ))) (all : AllLeadOrBeyond peers kept hung) (listed_all : AreAllExchanged peers hung) (stays
    : StaysFirst peers kept) (fresh : IsFresh w) (first : IsFirst kept w) where
  pub ends_or_lies : IsCoveredPermutedRichly peers kept z → CanEnd z ⊎ LiesBeyondOne w hung z
  ends_or_lies (jobs, rich, (u, moved, (v, headways, (others, alike, (i, m, at, shows)), same, ahead))) = go (all i (slice_get_within kept i m at))
    where
      go : LeadsToEnd peers kept i ⊎ IsBeyondOne kept hung i → CanEnd z ⊎ LiesBeyondOne w hung z
      go (inl (n, ends)) =
          inl (ending peers kept n i z ends (jobs, rich, (u, moved, (v, headways, (others, alike, (m, at, shows)), same, ahead))))
      go (inr (k, by, j, listed, comes, (ds, leads))) =
          let c = comes w fresh first in
          let more = c.2.0 in
          let l = leads (with_jobs c.0 more) (c.2.1, c.2.3, c.2.4) in
          let one = one_machine kept i l.2.0 m l.2.1 at in
          let lies = covered w c.0 l.0 u (unrolled by) ds m c.1 (gift_first ds c.0 l.0 more c.2.2 l.1)
          (subst (λ (x : MachineState). Shows x l.0) one l.2.2)
          (u.jobs, all_same u.jobs, (v, headways, (others, alike, (0, m, refl, shows)), same, ahead)) in
          inr (exchanged peers w z u hung jobs (stays w fresh first) listed_all rich moved (k, by, listed, lies))

-- ---- marks
mark_there : (marks : List Bool) (i : ℕ) → i < length marks → (b : Bool) × (slice_get marks i ≡ Some b)
mark_there [] i less = absurd (omega arith)
mark_there (b ∷ marks) zero less = (b, refl)
mark_there (b ∷ marks) (suc i) less = mark_there marks i (omega arith)

pub all_lead_or_beyond : (peers : List Peer) (kept : List MachineState) (marks : List Bool) (hung : List (List (ℕ × ℕ))) → AreMarked peers
    kept marks → AllBeyondBelow
    kept marks hung (length marks) → AllLeadOrBeyond peers kept hung
all_lead_or_beyond peers kept marks hung marked all i inside = go r.0 r.1
  where
    within : i < length marks
    within = subst (λ (n : ℕ). i < n) (sym marked.count) inside

    r : (b : Bool) × (slice_get marks i ≡ Some b)
    r = mark_there marks i within

    go : (b : Bool) → slice_get marks i ≡ Some b → LeadsToEnd peers kept i ⊎ IsBeyondOne kept hung i
    go true at = inl (marked.lead i at)
    go false at = inr (all i within at)
