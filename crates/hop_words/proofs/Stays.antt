-- What every kind of step uses.
use Rattle.std.proofs.Common.{◌≡◌, ◌≢◌, ℕ, ◌+◌, ◌<◌, Bool, true, false, List, [], ◌∷◌, ◌++◌, Option, Some, None, ◌⊎◌, length, refl, ap, sym}
use Rattle.std.proofs.Common.{subst, ◌∙◌, arith, append_assoc, ⊎_elim, inl, inr}
use Rattle.std.proofs.lemmas.Bool.{cases_eq}
use mathlib.Core.List.{IsPrefix}
use Rattle.bpf_shared.specs.declared.events.Entry.{Entry}
use Rattle.bpf_shared.specs.declared.events.Event.{Event}
use Rattle.bpf_shared.specs.Shape.{IsMap, IsApart, IsIn, element_span}
use Rattle.bpf_shared.specs.Store.{Plain, as_made, put, IsInMap, IsHeld, IsFixed, fixed_value}
use Rattle.bpf_shared.specs.Events.{Allowed, MayLie}
use Rattle.bpf_shared.specs.History.{events_of, entry}
use Rattle.hop_layout.specs.declared.place.Place.{Place}
use Rattle.hop_layout.specs.declared.about.About.{About}
use Rattle.hop_words.specs.declared.known.Known.{Known}
use Rattle.hop_words.specs.declared.known.Sight.{Sight}
use Rattle.hop_layout.specs.Layout.{put_at, same_place}
use Rattle.hop_words.specs.Ghost.{Filling, Carries, lane, Era, Ghost, shape_at, HasElement}
use Rattle.hop_words.specs.Rule.{Rule, Logged, Runs, Worn, numbered}
use Rattle.bpf_shared.specs.Own.{turns_of, in_run}
use Rattle.hop_words.specs.Private.Step.{Noted, Next}
use Rattle.hop_words.specs.Kinds.{TakesEffect}
use Rattle.hop_layout.proofs.Layouts.{same_is}
use Rattle.hop_layout.proofs.Maps.{map_is, spans_apart}
use Rattle.bpf_shared.proofs.Fixed.{element_apart}
use Rattle.hop_words.proofs.FixedPlaces.{sound}
use Rattle.hop_words.proofs.Small.{here_or}
use Rattle.hop_words.proofs.Histories.{rest_has_none, turns_own, turns_else, runs_as_known, shape_after, prefix_refl, done_in-append}

-- the counters after an event that turns no run
pub quiet_after : (a : About) (counts : ℕ → ℕ) (log : List Entry) (c : ℕ) (e : Event) → Runs a counts log → turns_of (e ∷ []) ≡ 0 → Runs a
    counts (log ++ entry c e ∷ [])
quiet_after a counts log c e p quiet d h = p d h ∙ ap (λ (n : ℕ). a.count + n) (sym (⊎_elim
    (λ (t : d ≡ c). subst (λ (x : ℕ). turns_of (events_of x (log ++ entry c e ∷ [])) ≡ turns_of (events_of x log)) (sym t)
    (omega (arith, turns_own c e log, quiet)))
    (λ (ne : d ≢ c). turns_else c d e log ne)
    (cases_eq d c)))

-- a word that is written as it was
pub put_again : (w : Place → ℕ) (p : Place) → put_at w p (w p) ≡ w
put_again w p = λ i q. go q (same_place q p) refl i
  where
    go : (q : Place) (b : Bool) → same_place q p ≡ b → put_at w p (w p) q ≡ w q
    go q true e = rw e (ap w (sym (same_is q p e)))
    go q false e = rw e refl

-- a step that changes nothing
pub stay : (a : About) (w : Place → ℕ) (g : Ghost) (c : ℕ) (p : Place) (told : Known → Type 0) → Rule a w g → told (lane g.lanes c) → Next a
    (put_at w p (w p)) g c told
stay a w g c p told r t = record {
  ghost = g;
  rule = subst (λ (v : Place → ℕ). Rule a v g) (sym (put_again w p)) r;
  others = λ d ne. refl;
  longer = prefix_refl g.log;
  tally = refl;
  says = t;
}

-- what a step reports may say less
pub next_as : (a : About) (w : Place → ℕ) (g : Ghost) (c : ℕ) (told said : Known → Type 0) {sights : List Sight} →
    ((x : Known) → told x → said x) → Noted a w g c sights told → Noted a w g c sights said
next_as a w g c told said less n = record {
  ghost = n.ghost;
  rule = n.rule;
  others = n.others;
  longer = n.longer;
  tally = n.tally;
  says =
      less (lane n.ghost.lanes c) n.says;
}

module _ (a : About) (w : Place → ℕ) (g : Ghost) (r : Rule a w g) (l : Known) (is : lane g.lanes l.cpu ≡ l) (inside : l.cpu < a.shape.cpus) where
  seen_is : g.lanes.seen l.cpu ≡ l.seen
  seen_is = ap (λ (x : Known). x.seen) is

  -- what a lane has not seen is of others
  pub saw : (e : Event) (t : Plain) → Allowed g.last l.cpu e t → Logged a (put g.lanes.seen l.cpu (g.log ++ entry l.cpu e ∷ []))
      (g.log ++ entry l.cpu e ∷ []) t → TakesEffect a l e (g.log ++ entry l.cpu e ∷ [])
  saw e t may logged =
      let begins : IsPrefix l.seen g.log = subst (λ (x : List Entry). IsPrefix x g.log) seen_is (r.logged.begins l.cpu inside) in
      let own : events_of l.cpu l.seen ≡ events_of l.cpu g.log = ap (events_of l.cpu) (sym seen_is) ∙ r.logged.own l.cpu inside in
      record {
        others = begins.0;
        foreign = rest_has_none l.cpu l.seen begins.0 (own ∙ ap (events_of l.cpu) (sym begins.1));
        after = ap (λ (x : List Entry). x ++ entry l.cpu e ∷ []) (sym begins.1) ∙ append_assoc l.seen begins.0 (entry l.cpu e ∷ []);
        legal = (t, logged.legal);
      }

  pub running_is : in_run (events_of l.cpu l.seen) ≡ true → g.last.running l.cpu ≡ true
  running_is run = runs_as_known a l.cpu g.last g.log l.seen r.shaped r.logged.legal (ap (events_of l.cpu) (sym seen_is) ∙ r.logged.own l.cpu inside) ∙ run

  pub shape_is : g.last.shape ≡ a.shape
  shape_is = shape_after (as_made a.shape) g.last g.log r.logged.legal

  pub map_there : (m : ℕ) → m < length a.shape.maps → IsMap g.last.shape.maps m (shape_at a m)
  map_there m n = subst (λ h. IsMap h.maps m (shape_at a m)) (sym shape_is) (map_is a.shape m n)

  pub runs_quiet : (counts : ℕ → ℕ) (e : Event) → Runs a counts g.log → turns_of (e ∷ []) ≡ 0 → Runs a counts (g.log ++ entry l.cpu e ∷ [])
  runs_quiet counts e = quiet_after a counts g.log l.cpu e

  some_numbered : (f : ℕ → ℕ) (o : Option ℕ) (v : ℕ) → numbered f o ≡ Some v → (e : ℕ) × (o ≡ Some e) × (f e ≡ v)
  some_numbered f None v e = cc
  some_numbered f (Some x) v e = (x, refl, cc)

  -- a value that is in a map or held lies in an element that nobody fills
  lies_in : (v : ℕ) → ((m : ℕ) × IsInMap g.last m v) ⊎ IsHeld g.last v → (m : ℕ) × (e : ℕ) × HasElement a m e × Carries (g.holder m e) × (g.number m e ≡ v)
  lies_in v (inl p) =
      let q = some_numbered (g.number p.0) (g.linked p.0 p.1.0) v (sym (r.keyed.leads p.0 p.1.0) ∙ p.1.1) in
      let w = r.linked.within p.0 p.1.0 q.0 q.1 in
      (p.0, q.0, w.0, subst Carries (sym w.1) tt, q.2)
  lies_in v (inr p) = r.valued.held_in p.0 v p.1

  -- so the element that a CPU fills overlaps no live value
  pub place_for : (m e c : ℕ) → HasElement a m e → g.holder m e ≡ Filling c → MayLie g.last m (shape_at a m) (element_span m (shape_at a m) e)
  place_for m e c at_e was = record {
    element = (e, at_e.1, refl);
    apart = λ v live. elim live [
      | inl p ↦ apart_from v (inl p)
      | inr (inl h) ↦ apart_from v (inr h)
      | inr (inr f) ↦ subst (IsApart (element_span m (shape_at a m) e)) (sym ((sound a w g r).fixed.spans v f ∙ ap (λ h. (fixed_value h v).span) shape_is))
          (element_apart a.shape r.shaped m e v (shape_at a m) (let n = at_e.0 in let z = r.shaped.count in omega arith)
          (r.shaped.each m (shape_at a m) (map_is a.shape m at_e.0)) at_e.1 (subst (λ h. IsFixed h v) shape_is f))
    ];
  }
    where
      apart_from : (v : ℕ) → ((m : ℕ) × IsInMap g.last m v) ⊎ IsHeld g.last v → IsApart (element_span m (shape_at a m) e) (g.last.value v).span
      apart_from v live =
          let k = lies_in v live in
          let span = ap (λ x. x.span) (ap g.last.value (sym k.4) ∙ r.valued.lies k.0 k.1 k.2 k.3) in
          subst (IsApart (element_span m (shape_at a m) e)) (sym span)
          (spans_apart a.shape m k.0 e k.1 r.shaped at_e.0 k.2.0 at_e.1 k.2.1 (λ t u. subst Carries ((λ i. g.holder (t i) (u i)) ∙ was) k.3))

-- two elements with one span are one
pub span_once : (a : About) (w : Place → ℕ) (g : Ghost) → Rule a w g → (m e n d : ℕ) → HasElement a m e → HasElement a n d → element_span n
    (shape_at a n) d ≡ element_span m (shape_at a m) e → (n ≡ m) × (d ≡ e)
span_once a w g r m e n d at_e at_d spans = ⊎_elim
    (λ (h : (n ≡ m) × (d ≡ e)). h)
    (λ (ne : n ≡ m → d ≢ e). absurd (spans_apart a.shape m n e d r.shaped at_e.0 at_d.0 at_e.1 at_d.1 ne
    (element_span m (shape_at a m) e).at start (subst (IsIn (element_span m (shape_at a m) e).at) (sym spans) start)))
    (here_or m n e d)
  where
    start : IsIn (element_span m (shape_at a m) e).at (element_span m (shape_at a m) e)
    start = let z = (r.shaped.each m (shape_at a m) (map_is a.shape m at_e.0)).value.0 in (omega arith, omega arith)

-- two elements that carry one value are one
pub number_once : (a : About) (w : Place → ℕ) (g : Ghost) → Rule a w g → (m e n d : ℕ) → HasElement a m e → HasElement a n d → Carries
    (g.holder m e) → Carries (g.holder n d) → g.number n d ≡ g.number m e → (n ≡ m) × (d ≡ e)
number_once a w g r m e n d at_e at_d ce cd same = span_once a w g r m e n d at_e at_d
    (ap (λ x. x.span) (sym (r.valued.lies n d at_d cd) ∙ (ap g.last.value same ∙ r.valued.lies m e at_e ce)))

-- versions after any event
pub worn_more : (a : About) (depths stamp : ℕ → ℕ → ℕ) (eras : ℕ → ℕ → Era) (log : List Entry) (x : Entry) → Worn a depths stamp eras log →
    Worn a depths stamp eras (log ++ x ∷ [])
worn_more a depths stamp eras log x p m s at_s = let z = done_in-append m log (x ∷ []) in let b = p m s at_s in omega arith
