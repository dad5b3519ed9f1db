-- Another CPU's turn, made in the world that lags.
use Rattle.std.proofs.Common.{◌≡◌, ◌≢◌, ℕ, zero, suc, true, List, [], ◌∷◌, ◌++◌, Option, Some, None, inl, inr, refl, sym, ap, subst, ◌∙◌}
use Rattle.std.specs.Prelude.{map, slice_get}
use Rattle.bpf_shared.specs.declared.events.Event.{Event}
use Rattle.bpf_shared.specs.declared.events.Event.TheVariants.{Begin, End}
use Rattle.bpf_shared.specs.Store.{Plain, put}
use Rattle.bpf_shared.specs.Choice.{PlainlyAllowed}
use Rattle.bpf_shared.specs.History.{PlainlyLegal, entry}
use Rattle.bpf_shared.specs.Sound.{IsSoundStore}
use Rattle.bpf_shared.proofs.Soundness.{allowed_sound, plainly_sound}
use Rattle.bpf_shared.proofs.Leaving.{event_shape, history_shape}
use Rattle.bpf_loader.specs.Loaded.{Loaded}
use Rattle.bpf_cpu.specs.declared.cpu.Cpu.{Cpu}
use Rattle.bpf_cpu.specs.declared.outcome.Outcome.{Outcome}
use Rattle.bpf_cpu.specs.State.{start}
use Rattle.bpf_cpu.specs.Task.{Stage, Task, Waiting, InHand, Ended}
use Rattle.bpf_machine.specs.declared.machine.Turn.{Turn}
use Rattle.bpf_machine.specs.declared.machine.Turn.TheVariants as turn
use Rattle.bpf_machine.specs.Hands.{IsAt, SomeWaits, NoneWaits}
use Rattle.bpf_machine.specs.Listings.{Listing, Never, Due, Made, listed_now, keys_by_map}
use Rattle.bpf_machine.specs.Schedule.{World, Advances, Lists, Settles, GoesOn, TakesTurn}
use Rattle.bpf_x86.proofs.Overlay.{hits, changes, any_left, changes_hits}
use Rattle.bpf_x86.proofs.Behind.{IsBehind, Misses, AllMiss, behind_event}
use Rattle.bpf_x86.proofs.StepShapes.{AreNot, is_call}
use Rattle.bpf_x86.proofs.Staying.{legal_along}
use Rattle.bpf_x86.proofs.Lagging.{IsLagging, miss_fewer, AdvanceMisses, new_world, lag_advances, lags_on, at_l, free_l, none_l, below_l}

pub shape_along : (c : ℕ) (es : List Event) (s t : Plain) → PlainlyLegal s (map (entry c) es) t → t.shape ≡ s.shape
shape_along c es s t legal = history_shape PlainlyAllowed (λ s t c e a. a.0) s t (map (entry c) es) legal

-- what is listed of stores with the same maps
pub listed_same : (s t : Plain) (x : Listing) → keys_by_map s ≡ keys_by_map t → listed_now s x ≡ listed_now t x
listed_same s t Never e = refl
listed_same s t Due e = ap Made e
listed_same s t (Made all) e = ap Made e

-- none of a turn's steps touches these bytes
abbrev pub TurnMisses : (lacking : List Event) (w : World) (c : ℕ) (answer : Turn) (z : World) → TakesTurn w c answer z → Type 0
TurnMisses lacking w c answer z (inl a) = AdvanceMisses lacking a.5.0 c w.store a.2 a.3 a.5.1 a.5.2 a.5.3 a.5.4 a.5.6
TurnMisses lacking w c answer z (inr (inl a)) = AdvanceMisses lacking a.1.7.0 c a.1.3 (start c a.1.2) a.1.1.budget a.1.7.1 a.1.7.2 a.1.7.3 a.1.7.4 a.1.7.6
TurnMisses lacking w c answer z (inr (inr a)) = Unit {0}

-- what a list of events misses, the first of them do
made_missed : (made later es : List Event) → AllMiss (made ++ later) es → AllMiss made es
made_missed made later es miss = miss_fewer (made ++ later) made es (λ y h. any_left changes made later y h) (λ y h. any_left hits made later y h) miss

-- what a step of another CPU leaves: the loads and stores can still be made
advance_legal : (c d : ℕ) → c ≢ d → (made later : List Event) → AreNot is_call made → (program : Loaded) (s : Plain) (old : Cpu) (left : ℕ)
    (end : Option Outcome) (t : Plain) (new : Cpu) (rest : ℕ) (u : Plain) → IsSoundStore s
    → (a : Advances program c s old left end t new rest) → AdvanceMisses (made ++ later) program c s old left end t new rest a →
    PlainlyLegal s (map (entry d) made) u → ((q : Plain) × PlainlyLegal t (map (entry d) made) q) × (t.shape ≡ s.shape) × IsSoundStore t
advance_legal c d ne made later none program s old zero end t new rest u so a miss legal =
    ((u, subst (λ (z : Plain). PlainlyLegal z (map (entry d) made) u) (sym a.1) legal), ap (λ (z : Plain). z.shape) a.1, subst IsSoundStore (sym a.1) so)
advance_legal c d ne made later none program s old (suc n) end t new rest u so a miss legal = (
  legal_along c d ne made none a.0 s t u so (made_missed made later a.0 miss) a.3 legal,
  shape_along c a.0 s t a.3,
  plainly_sound s t
      (map (entry c) a.0) so a.3,
)

-- a begin and an end touch nothing
missed_by : (lacking : List Event) (e : Event) → ((x : ℕ) → hits e x ≡ true → ⊥) → Misses lacking e
missed_by lacking e none = (λ x h k. none x h, λ x h k. none x (changes_hits e x h))

module _ (d : ℕ) (made later : List Event) (c : ℕ) (ne : c ≢ d) (l w : World) (lag : IsLagging d made later l w) where
  -- a job of the CPU goes on, from stores that lag so
  module _ (k : ℕ) (t : Task) (was : Stage) (at : IsAt w.jobs c k t was) (p s : Plain) (so_p : IsSoundStore p) (so_s : IsSoundStore s)
      (behind : IsBehind d (made ++ later) p s)
      (shape : p.shape ≡ l.store.shape) (u : Plain) (legal : PlainlyLegal p (map (entry d) made) u) where
    lag_goes : (old : Cpu) (left : ℕ) (answer : Turn) (z : World) → (g : GoesOn (record w { store = s }) c k t old left answer z) →
        AdvanceMisses (made ++ later) g.0 c s old left g.1 g.2 g.3 g.4 g.6
        → (y : World) × GoesOn (record l { store = p }) c k t old left answer y × IsLagging d made later y z
    lag_goes old left answer z g miss = settle g.1 g.6 miss g.7
      where
        settle : (end : Option Outcome) → (a : Advances g.0 c s old left end g.2 g.3 g.4) → AdvanceMisses (made ++ later) g.0 c s old left
            end g.2 g.3 g.4 a → Settles (record w { store = g.2 }) c k t g.3 g.4 end answer z
            → (y : World) × GoesOn (record l { store = p }) c k t old left answer y × IsLagging d made later y z
        settle None a miss settles =
            let r = lag_advances d made later c ne g.0 p s old left None g.2 g.3 g.4 so_p so_s behind a miss in
            let after = advance_legal c d ne made later lag.quiet g.0 p old left None r.0 g.3 g.4 u so_p r.1 r.3 legal in
            let stage : Stage = InHand g.3 g.4 in
            let y : World = new_world l r.0 k t stage l.lists in
            let loaded : slice_get l.programs t.program ≡ Some g.0 = ap (λ (ps : List Loaded). slice_get ps t.program) lag.programs ∙ g.5 in (
              y,
              (g.0, None, r.0, g.3, g.4, loaded, r.1, (settles.0, refl)),
              subst (IsLagging d made later y) (sym settles.1) (lags_on d made later c ne l w lag k t was stage r.0 g.2 l.lists w.lists
                  (at_l d made later c ne l w lag k t was at) lag.lists r.2 (after.1 ∙ shape) after.0.0 after.0.1),
            )
        settle (Some end) a miss settles =
            let r = lag_advances d made later c ne g.0 p s old left (Some end) g.2 g.3 g.4 so_p so_s behind a miss in
            let after = advance_legal c d ne made later lag.quiet g.0 p old left (Some end) r.0 g.3 g.4 u so_p r.1 r.3 legal in
            let sound_s : IsSoundStore g.2 = advanced_sound left (Some end) a in
            let ended = behind_event d (made ++ later) r.0 g.2 after.2 sound_s r.2 c ne End settles.0 (missed_by (made ++ later) End (λ x hit. cc)) settles.1 in
            let stage : Stage = Ended end in
            let loaded : slice_get l.programs t.program ≡ Some g.0 = ap (λ (ps : List Loaded). slice_get ps t.program) lag.programs ∙ g.5 in
            let legal_now = legal_along c d ne made lag.quiet (End ∷ []) r.0 ended.0 after.0.0 after.2
            (missed_by made End (λ x hit. cc), tt) (ended.0, ended.1, refl) after.0.1 in
            let shape_now : ended.0.shape ≡ l.store.shape = event_shape r.0 ended.0 c End ended.1.0 ∙ after.1 ∙ shape in
            let at' = at_l d made later c ne l w lag k t was at in
            let plain : IsLagging d made later (new_world l ended.0 k t stage l.lists) (new_world w settles.0 k t stage w.lists) =
            lags_on d made later c ne l w lag k t was stage ended.0 settles.0 l.lists w.lists at' lag.lists ended.2 shape_now legal_now.0 legal_now.1 in
            listed end loaded r.0 r.1 ended.0 ended.1 settles.0 settles.2 settles.3 plain
            (λ lists more same. lags_on d made later c ne l w lag k t was stage ended.0 settles.0 lists more at' same ended.2 shape_now legal_now.0 legal_now.1)
            (ap keys_by_map ended.2.like.same)
          where
            advanced_sound : (left : ℕ) (end : Option Outcome) → Advances g.0 c s old left end g.2 g.3 g.4 → IsSoundStore g.2
            advanced_sound zero end a = subst IsSoundStore (sym a.1) so_s
            advanced_sound (suc n) end a = plainly_sound s g.2 (map (entry c) a.0) so_s a.3

            listed : (end : Outcome) → slice_get l.programs t.program ≡ Some g.0 → (p1 : Plain) → Advances g.0 c p old left (Some end) p1 g.3 g.4
                → (p2 : Plain) → PlainlyAllowed p1 c End p2 → (s2 : Plain) → answer ≡ turn.Ended k end
                → Lists (new_world w s2 k t (Ended end) w.lists) c z
                → IsLagging d made later (new_world l p2 k t (Ended end) l.lists) (new_world w s2 k t (Ended end) w.lists)
                → ((lists more : ℕ → Listing) → lists ≡ more → IsLagging d made later (new_world l p2 k t (Ended end) lists)
                (new_world w s2 k t (Ended end) more))
                → keys_by_map p2 ≡ keys_by_map s2
                → (y : World) × GoesOn (record l { store = p }) c k t old left answer y × IsLagging d made later y z
            listed end loaded p1 advances p2 allowed s2 said (inl (some, same)) plain lists keys =
                let y : World = new_world l p2 k t (Ended end) l.lists in
                let waits_l : SomeWaits y.jobs c = (
                  some.0,
                  some.1,
                  some.2,
                  at_l d made later c ne y
                      (new_world w s2 k t (Ended end) w.lists) plain some.0 some.1 (Waiting some.2) some.3,
                ) in (
                  y,
                  (g.0, Some end, p1, g.3, g.4, loaded, advances, (p2, allowed, said, inl (waits_l, refl))),
                  subst
                      (IsLagging d made later y) (sym same) plain,
                )
            listed end loaded p1 advances p2 allowed s2 said (inr (none, same)) plain lists keys =
                let told : ℕ → Listing = put l.lists c (listed_now p2 (l.lists c)) in
                let more : ℕ → Listing = put w.lists c (listed_now s2 (w.lists c)) in
                let equal : told ≡ more = ap (λ (f : ℕ → Listing). put f c (listed_now p2 (f c))) lag.lists ∙ ap
                (λ (x : Listing). put w.lists c x) (listed_same p2 s2 (w.lists c) keys) in
                let y0 : World = new_world l p2 k t (Ended end) l.lists in
                let y : World = new_world l p2 k t (Ended end) told in
                let none_l' : NoneWaits y0.jobs c = none_l d made later c ne y0 (new_world w s2 k t (Ended end) w.lists) plain none in (
                  y,
                  (g.0, Some end, p1, g.3, g.4, loaded, advances, (p2, allowed, said, inr (none_l', refl))),
                  subst
                      (IsLagging d made later y) (sym same) (lists told more equal),
                )

-- a turn
pub lag_turn : (d : ℕ) (made later : List Event) (c : ℕ) (ne : c ≢ d) (l w : World) → IsLagging d made later l w → IsSoundStore l.store → IsSoundStore w.store
    → (answer : Turn) (z : World) → (taken : TakesTurn w c answer z) → TurnMisses (made ++ later) w c answer z taken → (y : World) ×
    TakesTurn l c answer y × IsLagging d made later y z
lag_turn d made later c ne l w lag so_l so_w answer z (inl a) miss =
    let r = lag_goes d made later c ne l w lag a.0 a.1 (InHand a.2 a.3) a.4 l.store w.store so_l so_w lag.behind refl lag.store lag.legal
    a.2 a.3 answer z a.5 miss in
    (r.0, inl (a.0, a.1, a.2, a.3, at_l d made later c ne l w lag a.0 a.1 (InHand a.2 a.3) a.4, r.1), r.2)
lag_turn d made later c ne l w lag so_l so_w answer z (inr (inl (free, a))) miss =
    let begun = behind_event d (made ++ later) l.store w.store so_l so_w lag.behind c ne Begin a.3 (missed_by (made ++ later) Begin (λ x hit. cc)) a.6 in
    let so_p = allowed_sound l.store begun.0 c Begin so_l begun.1.0 in
    let so_s = allowed_sound w.store a.3 c Begin so_w a.6.0 in
    let legal = legal_along c d ne made lag.quiet (Begin ∷ []) l.store begun.0 lag.store so_l (missed_by made Begin (λ x hit. cc), tt)
    (begun.0, begun.1, refl) lag.legal in
    let r = lag_goes d made later c ne l w lag a.0 a.1 (Waiting a.2) a.4 begun.0 a.3 so_p so_s begun.2
    (event_shape l.store begun.0 c Begin begun.1.0) legal.0 legal.1 (start c a.2) a.1.budget answer z a.7 miss in (
      r.0,
      inr (inl (
        free_l d made later c ne l w lag free,
        (
          a.0,
          a.1,
          a.2,
          begun.0,
          at_l d made later c ne l w lag a.0 a.1 (Waiting a.2)
              a.4,
          below_l d made later c ne l w lag a.0 a.5,
          begun.1,
          r.1,
        ),
      )),
      r.2,
    )
lag_turn d made later c ne l w lag so_l so_w answer z (inr (inr a)) miss =
    (l, inr (inr (free_l d made later c ne l w lag a.0, none_l d made later c ne l w lag a.1, a.2, refl)), subst (IsLagging d made later l) (sym a.3) lag)
