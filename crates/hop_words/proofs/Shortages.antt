-- What a shortage says, as steps go on.
use Rattle.std.proofs.Common.{◌≡◌, ◌≢◌, ℕ, ◌+◌, ◌/◌, ◌%◌, ◌<◌, ◌≤◌, Bool, true, false, ◌&&◌, List, [], ◌∷◌, ◌++◌, ◌==◌, length, refl, ap}
use Rattle.std.proofs.Common.{sym, subst, ◌∙◌, arith, eq-eqb, ne_eqb, ⊎_elim, inl, inr, ◌⊎◌}
use Rattle.std.specs.Int.{bit_at}
use Rattle.std.proofs.lemmas.Bool.{cases_eq}
use native.Mathlib.Decide.{dec_lt}
use mathlib.Core.Logic.{dite}
use Rattle.bpf_shared.specs.declared.events.Entry.{Entry}
use Rattle.bpf_shared.specs.declared.events.Event.{Event}
use Rattle.bpf_shared.specs.declared.events.Event.TheVariants.{Update, Delete}
use Rattle.bpf_shared.specs.declared.events.MapAnswer.TheVariants.{Busy, NoMemory}
use Rattle.bpf_shared.specs.declared.events.Span.{Span}
use Rattle.bpf_shared.specs.Shape.{Shape, element_span}
use Rattle.bpf_shared.specs.Store.{Plain, Value, put, as_made}
use Rattle.bpf_shared.specs.Events.{Allowed, after_update, after_write}
use Rattle.bpf_shared.specs.History.{Legal, events_of, entry}
use Rattle.bpf_shared.specs.Own.{turns_of, in_run}
use Rattle.bpf_shared.proofs.Histories.{history-append}
use Rattle.bpf_shared.proofs.Puts.{put-same, put-other}
use Rattle.hop_layout.specs.declared.place.Place.{Place}
use Rattle.hop_layout.specs.declared.place.Place.TheVariants.{FreeBits}
use Rattle.hop_layout.specs.declared.about.About.{About}
use Rattle.hop_words.specs.declared.known.Known.{Known}
use Rattle.hop_words.specs.declared.known.Fresh.{Fresh}
use Rattle.hop_words.specs.declared.known.Sight.{Sight}
use Rattle.hop_words.specs.Content.{one_if}
use Rattle.hop_words.specs.Ghost.{Holder, Free, Filling, Leaving, Within, is_free, is_filling, Carries, lane, Ghost, shape_at, HasElement}
use Rattle.hop_words.specs.Shortage.{is_update, updates_of, updates_in, HasHadValue, Moment, EachMayBeTaken, HasCause, HaveCausesBy}
use Rattle.hop_words.specs.Sights.{LeavesElements, ShowsTaken, IsTakenSince}
use Rattle.hop_words.specs.Rule.{Rule, Shown, Took, times_fresh, taken_at, begun_in}
use Rattle.hop_words.specs.Kinds.{SawAllTaken}
use Rattle.hop_words.proofs.Small.{here_or, put2-same, put2-other}
use Rattle.hop_words.proofs.Histories.{log_own, log_other, turns_own, turns_else}

-- ---- updates that were begun
pub updates_of-append : (m : ℕ) (xs ys : List Event) → updates_of m (xs ++ ys) ≡ updates_of m xs + updates_of m ys
updates_of-append m [] ys = omega arith
updates_of-append m (x ∷ xs) ys = let r = updates_of-append m xs ys in omega arith

pub one_most : (b : Bool) → one_if b ≤ 1
one_most true = omega arith
one_most false = omega arith

taken_at_most : (m n : ℕ) (fs : List Fresh) → taken_at m n fs ≤ 1
taken_at_most m n [] = omega arith
taken_at_most m n (f ∷ fs) = one_most ((f.map == m) && (f.update == n))

begun_grows : (m n k : ℕ) (fs : List Fresh) (b : Bool) → k ≡ n + one_if b → n + taken_at m n fs ≤ k + taken_at m k fs
begun_grows m n k fs true is = let z = taken_at_most m n fs in omega arith
begun_grows m n k fs false is = let s : k ≡ n = omega arith in let z : taken_at m k fs ≡ taken_at m n fs = ap (λ (i : ℕ). taken_at m i fs) s in omega arith

updates_own : (m c : ℕ) (e : Event) (log : List Entry) → updates_in (log ++ entry c e ∷ []) m c ≡ updates_in log m c + one_if (is_update m e)
updates_own m c e log =
    let z : updates_in (log ++ entry c e ∷ []) m c ≡ updates_of m (events_of c log) + updates_of m (e ∷ []) = ap (updates_of m)
    (log_own c e log) ∙ updates_of-append m (events_of c log) (e ∷ []) in
    omega arith

updates_other : (m c d : ℕ) (e : Event) (log : List Entry) → d ≢ c → updates_in (log ++ entry c e ∷ []) m d ≡ updates_in log m d
updates_other m c d e log ne = ap (updates_of m) (log_other c d e log ne)

-- an event more
pub begun_event : (log : List Entry) (fresh : ℕ → List Fresh) (c : ℕ) (e : Event) (m d : ℕ) → begun_in log fresh m d ≤ begun_in
    (log ++ entry c e ∷ []) fresh m d
begun_event log fresh c e m d = ⊎_elim
    (λ (t : d ≡ c). subst (λ (i : ℕ). begun_in log fresh m i ≤ begun_in (log ++ entry c e ∷ []) fresh m i) (sym t)
    (begun_grows m (updates_in log m c) (updates_in (log ++ entry c e ∷ []) m c) (fresh c) (is_update m e) (updates_own m c e log)))
    (λ (ne : d ≢ c). begun_grows m (updates_in log m d) (updates_in (log ++ entry c e ∷ []) m d) (fresh d) false
    (let z = updates_other m c d e log ne in omega arith))
    (cases_eq d c)

-- the hand of one CPU is another
begun_hand : (log : List Entry) (fresh : ℕ → List Fresh) (c : ℕ) (fs : List Fresh) →
    ((m : ℕ) → taken_at m (updates_in log m c) (fresh c) ≤ taken_at m (updates_in log m c) fs) → (m d : ℕ) → begun_in log fresh m d ≤
    begun_in log (put fresh c fs) m d
begun_hand log fresh c fs less m d = ⊎_elim
    (λ (t : d ≡ c).
    let p : taken_at m (updates_in log m d) (put fresh c fs d) ≡ taken_at m (updates_in log m d) fs = ap (taken_at m (updates_in log m d))
    (put-same fresh c d fs t) in
    let q : taken_at m (updates_in log m d) (fresh d) ≤ taken_at m (updates_in log m d) fs = subst
    (λ (i : ℕ). taken_at m (updates_in log m i) (fresh i) ≤ taken_at m (updates_in log m i) fs) (sym t) (less m) in
    omega arith)
    (λ (ne : d ≢ c). let p : taken_at m (updates_in log m d) (put fresh c fs d) ≡ taken_at m (updates_in log m d) (fresh d) = ap (taken_at m (updates_in log m d)) (put-other fresh c d fs ne) in
    omega arith)
    (cases_eq d c)

-- one is taken into an empty hand
pub begun_take : (log : List Entry) (fresh : ℕ → List Fresh) (c : ℕ) (fs : List Fresh) → fresh c ≡ [] → (m d : ℕ) → begun_in log fresh m d ≤
    begun_in log (put fresh c fs) m d
begun_take log fresh c fs none = begun_hand log fresh c fs (λ m.
    let z : taken_at m (updates_in log m c) (fresh c) ≡ 0 = ap (taken_at m (updates_in log m c)) none in omega arith)

-- one in hand is filled
pub begun_fill : (log : List Entry) (fresh : ℕ → List Fresh) (c : ℕ) (f f2 : Fresh) (rest : List Fresh) → fresh c ≡ f ∷ rest → f2.map ≡
    f.map → f2.update ≡ f.update → (m d : ℕ) → begun_in log fresh m d ≤ begun_in log (put fresh c (f2 ∷ rest)) m d
begun_fill log fresh c f f2 rest is map update = begun_hand log fresh c (f2 ∷ rest) (λ m.
    let n = updates_in log m c in
    let z : taken_at m n (fresh c) ≡ taken_at m n (f2 ∷ rest) = ap (taken_at m n) is ∙ (λ j. one_if ((sym map j == m) && (sym update j == n))) in
    omega arith)

not_taken_at : (m n : ℕ) (f : Fresh) (rest : List Fresh) → (f.map ≡ m → f.update ≢ n) → taken_at m n (f ∷ rest) ≡ 0
not_taken_at m n f rest ne = ⊎_elim
    (λ (t : f.map ≡ m). ap one_if (ap (λ (z : Bool). (f.map == m) && z) (ne_eqb f.update n (ne t)) ∙ and_false (f.map == m)))
    (λ (nm : f.map ≢ m). ap one_if (ap (λ (z : Bool). z && (f.update == n)) (ne_eqb f.map m nm)))
    (cases_eq f.map m)
  where
    and_false : (z : Bool) → z && false ≡ false
    and_false true = refl
    and_false false = refl

-- one is given back after its update was answered
pub begun_give : (log : List Entry) (fresh : ℕ → List Fresh) (c : ℕ) (f : Fresh) (rest : List Fresh) → fresh c ≡ f ∷ rest → f.update <
    updates_in log f.map c → (m d : ℕ) → begun_in log fresh m d ≤ begun_in log (put fresh c rest) m d
begun_give log fresh c f rest is less = begun_hand log fresh c rest (λ m.
    let z : taken_at m (updates_in log m c) (fresh c) ≡ 0 = ap (taken_at m (updates_in log m c)) is
    ∙ not_taken_at m (updates_in log m c) f rest (λ (t : f.map ≡ m) (e : f.update ≡ updates_in log m c).
    let y : updates_in log f.map c ≡ updates_in log m c = ap (λ (i : ℕ). updates_in log i c) t in let k = less in omega arith) in
    omega arith)

-- the update that took one is answered, and the element is the map's
pub begun_answer : (log : List Entry) (fresh : ℕ → List Fresh) (c : ℕ) (f : Fresh) (rest : List Fresh) (e : Event) → fresh c ≡ f ∷ rest →
    is_update f.map e ≡ true → (m d : ℕ) → begun_in log fresh m d ≤ begun_in (log ++ entry c e ∷ []) (put fresh c rest) m d
begun_answer log fresh c f rest e is updates m d = ⊎_elim
    (λ (t : d ≡ c). subst (λ (i : ℕ). begun_in log fresh m i ≤ begun_in log' (put fresh c rest) m i) (sym t) (here (cases_eq f.map m)))
    (λ (ne : d ≢ c).
    let p : taken_at m (updates_in log' m d) (put fresh c rest d) ≡ taken_at m (updates_in log' m d) (fresh d) = ap
    (taken_at m (updates_in log' m d)) (put-other fresh c d rest ne) in
    let q = begun_event log fresh c e m d in
    omega arith)
    (cases_eq d c)
  where
    log' : List Entry
    log' = log ++ entry c e ∷ []

    here : (f.map ≡ m) ⊎ (f.map ≢ m) → begun_in log fresh m c ≤ begun_in log' (put fresh c rest) m c
    here (inl t) =
        let one : one_if (is_update m e) ≡ 1 = ap one_if (subst (λ (i : ℕ). is_update i e ≡ true) t updates) in
        let more = updates_own m c e log in
        let few = taken_at_most m (updates_in log m c) (fresh c) in
        omega arith
    here (inr nm) =
        let none : taken_at m (updates_in log m c) (fresh c) ≡ 0 = ap (taken_at m (updates_in log m c)) is ∙ not_taken_at m
        (updates_in log m c) f rest (λ (t : f.map ≡ m). absurd (nm t)) in
        let more = updates_own m c e log in
        omega arith

-- a hand that was empty is, where another one changed
pub empty_still : (fresh : ℕ → List Fresh) (c : ℕ) (f : Fresh) (rest fs : List Fresh) → fresh c ≡ f ∷ rest → (d : ℕ) → fresh d ≡ [] → put fresh c fs d ≡ []
empty_still fresh c f rest fs is d none = ⊎_elim
    (λ (t : d ≡ c). let z : f ∷ rest ≡ [] = sym is ∙ (ap fresh (sym t) ∙ none) in cc)
    (λ (ne : d ≢ c). put-other fresh c d fs ne ∙ none)
    (cases_eq d c)

-- ---- who is in a run
pub run_else : (c d : ℕ) (e : Event) (log : List Entry) → d ≢ c → in_run (events_of d log) ≡ true → in_run (events_of d (log ++ entry c e ∷ [])) ≡ true
run_else c d e log ne r = ap (λ (n : ℕ). n % 2 == 1) (turns_else c d e log ne) ∙ r

pub run_quiet : (c d : ℕ) (e : Event) (log : List Entry) → turns_of (e ∷ []) ≡ 0 → in_run (events_of d log) ≡ true → in_run
    (events_of d (log ++ entry c e ∷ [])) ≡ true
run_quiet c d e log quiet r = ⊎_elim
    (λ (t : d ≡ c). subst (λ (i : ℕ). in_run (events_of i (log ++ entry c e ∷ [])) ≡ true) (sym t)
    (ap (λ (n : ℕ). n % 2 == 1)
    (turns_own c e log ∙ (let z : turns_of (events_of c log) + turns_of (e ∷ []) ≡ turns_of (events_of c log) = omega arith in z)) ∙
    subst (λ (i : ℕ). in_run (events_of i log) ≡ true) t r))
    (λ (ne : d ≢ c). run_else c d e log ne r)
    (cases_eq d c)

-- ---- causes
cause_more : (version : ℕ) (made most : ℕ → ℕ → ℕ) (x : Moment) (e : Event) → ((m c : ℕ) → c < x.shape.cpus → made m c ≤ most m c) →
    HasCause version made x e → HasCause version most x e
cause_more version made most x (Update m key bytes flags Busy) more h = h
cause_more version made most x (Update m key bytes flags NoMemory) more h = (
  h.0,
  λ e few.
      let t = h.1 e few in
      record {
        cpu = t.cpu;
        update = t.update;
        inside = t.inside;
        this = t.this;
        begun = t.begun;
        ends =
            (let a = t.ends in let b = more m t.cpu t.inside in omega arith);
        valued = t.valued;
      },
)
cause_more version made most x (Delete m key Busy) more h = h
cause_more version made most x e more h = tt

-- more of the updates are made
pub causes_made : (h : Shape) (version : ℕ) (made most : ℕ → ℕ → ℕ) (log : List Entry) (last : Plain) →
    ((m c : ℕ) → c < h.cpus → made m c ≤ most m c) → HaveCausesBy h version made log last → HaveCausesBy h version most log last
causes_made h version made most log last more all before after x is =
    let k = all before after x is in
    (k.0, k.1, k.2, cause_more version made most (record { shape = h; before = before; store = k.0; cpu = x.cpu }) x.event more k.3)

-- where a history with one entry more is cut
cut_last : (log : List Entry) (x : Entry) (before after : List Entry) (y : Entry) → log ++ x ∷ [] ≡ before ++ (y ∷ after)
    → ((log ≡ before) × (x ≡ y) × (after ≡ [])) ⊎ ((sooner : List Entry) × (after ≡ sooner ++ x ∷ []) × (log ≡ before ++ (y ∷ sooner)))
cut_last [] x [] after y e = let s : x ≡ y = cc in let t : [] ≡ after = cc in inl (refl, s, sym t)
cut_last [] x (b ∷ []) after y e = cc
cut_last [] x (b ∷ c ∷ bs) after y e = cc
cut_last (z ∷ zs) x [] after y e = let s : z ≡ y = cc in let t : zs ++ x ∷ [] ≡ after = cc in inr (zs, sym t, ap (λ (q : Entry). q ∷ zs) s)
cut_last (z ∷ zs) x (b ∷ bs) after y e =
    let s : z ≡ b = cc in
    let t : zs ++ x ∷ [] ≡ bs ++ (y ∷ after) = cc in
    ⊎_elim
    (λ (here : (zs ≡ bs) × (x ≡ y) × (after ≡ [])). inl ((λ j. s j ∷ here.0 j), here.1, here.2))
    (λ (further : (sooner : List Entry) × (after ≡ sooner ++ x ∷ []) × (zs ≡ bs ++ (y ∷ sooner))). inr (further.0, further.1, (λ j. s j ∷ further.2 j)))
    (cut_last zs x bs after y t)

-- an event more, which has its cause
pub causes_event : (h : Shape) (version : ℕ) (made : ℕ → ℕ → ℕ) (log : List Entry) (last t : Plain) (c : ℕ) (e : Event) → Legal (as_made h)
    log last → Allowed last c e t
    → HaveCausesBy h version made log last → HasCause version made (record { shape = h; before = log; store = last; cpu = c }) e →
    HaveCausesBy h version made (log ++ entry c e ∷ []) t
causes_event h version made log last t c e legal may all cause before after x is = ⊎_elim
    (λ (here : (log ≡ before) × (entry c e ≡ x) × (after ≡ [])). (
      last,
      subst (λ (b : List Entry). Legal (as_made h) b last) here.0 legal,
      subst (λ (y : Entry). Legal last (y ∷ after) t) here.1 (subst (λ (z : List Entry). Legal last (entry c e ∷ z) t) (sym here.2) (t, may, refl)),
      subst (λ (y : Entry). HasCause version made (record { shape = h; before = before; store = last; cpu = y.cpu }) y.event) here.1
          (subst (λ (b : List Entry). HasCause version made (record { shape = h; before = b; store = last; cpu = c }) e) here.0 cause),
    ))
    (λ (sooner : (s : List Entry) × (after ≡ s ++ entry c e ∷ []) × (log ≡ before ++ (x ∷ s))).
    let k = all before sooner.0 x sooner.2 in (
      k.0,
      k.1,
      subst (λ (z : List Entry). Legal k.0 (x ∷ z) t) (sym sooner.1) (history-append Allowed k.0 last t (x ∷ sooner.0) (entry c e ∷ []) k.2 (t, may, refl)),
      k.3,
    ))
    (cut_last log (entry c e) before after x is)

-- an event more, whatever a hand is by then
pub causes_on : (a : About) (log : List Entry) (last t : Plain) (fresh fresh' : ℕ → List Fresh) (c : ℕ) (e : Event) →
    ((m d : ℕ) → begun_in log fresh m d ≤ begun_in (log ++ entry c e ∷ []) fresh' m d) → Legal (as_made a.shape) log last → Allowed last c e t
    → HaveCausesBy a.shape a.version (begun_in log fresh) log last → HasCause a.version (begun_in log fresh)
    (record { shape = a.shape; before = log; store = last; cpu = c }) e → HaveCausesBy a.shape a.version
    (begun_in (log ++ entry c e ∷ []) fresh') (log ++ entry c e ∷ []) t
causes_on a log last t fresh fresh' c e more legal may all cause = causes_made a.shape a.version (begun_in log fresh)
    (begun_in (log ++ entry c e ∷ []) fresh') (log ++ entry c e ∷ []) t (λ m d inside. more m d)
    (causes_event a.shape a.version (begun_in log fresh) log last t c e legal may all cause)

-- ---- values
pub had_update : (s : Plain) (m : ℕ) (key : List ℕ) (x : Value) (p : Span) → HasHadValue s p → HasHadValue (after_update s m key x) p
had_update s m key x p h = (
  h.0,
  (let l = h.1 in omega arith),
  ap (λ (y : Value). y.span)
      (put-other s.value s.made h.0 x (λ (e : h.0 ≡ s.made). let l = h.1 in omega arith)) ∙ h.2,
)

pub new_update : (s : Plain) (m : ℕ) (key : List ℕ) (x : Value) → HasHadValue (after_update s m key x) x.span
new_update s m key x = (s.made, omega arith, ap (λ (y : Value). y.span) (put-same s.value s.made s.made x refl))

pub had_write : (s : Plain) (v at n x : ℕ) (p : Span) → HasHadValue s p → HasHadValue (after_write s v at n x) p
had_write s v at n x p h = (
  h.0,
  h.1,
  ⊎_elim
      (λ (e : h.0 ≡ v). ap (λ (y : Value). y.span) (put-same s.value v h.0 _ e) ∙ (ap (λ (i : ℕ). (s.value i).span) (sym e) ∙ h.2))
      (λ (ne : h.0 ≢ v). ap (λ (y : Value). y.span) (put-other s.value v h.0 _ ne) ∙ h.2)
      (cases_eq h.0 v),
)

-- ---- what stays true
-- an update that was begun is one that was begun after more
unfoldable pub took_more : (a : About) (log log' : List Entry) (fresh fresh' : ℕ → List Fresh) (taker : ℕ → ℕ → ℕ → ℕ) (m e : ℕ) →
    ((m d : ℕ) → begun_in log fresh m d ≤ begun_in log' fresh' m d) → Took a log fresh taker m e → Took a log' fresh' taker m e
took_more a log log' fresh fresh' taker m e more t = record {
  cpu = t.cpu;
  update = t.update;
  inside = t.inside;
  this = t.this;
  begun =
      (let b = t.begun in let k = more m t.cpu in omega arith);
}

-- no element becomes one that is filled, or one that isn't free
abbrev pub Settles : (ℕ → ℕ → Holder) → (ℕ → ℕ → Holder) → Type 0
Settles holder holder' = (m e : ℕ) → (holder' m e ≢ Free → holder m e ≢ Free) × ((c : ℕ) → holder' m e ≡ Filling c → holder m e ≡ Filling c)

pub settled : (holder : ℕ → ℕ → Holder) → Settles holder holder
settled holder m e = ((λ h. h), (λ c h. h))

pub settles_put : (holder : ℕ → ℕ → Holder) (m e : ℕ) (y : Holder) → (y ≢ Free → holder m e ≢ Free) → ((c : ℕ) → y ≡ Filling c → ⊥) →
    Settles holder (put holder m (put (holder m) e y))
settles_put holder m e y kept unfilled n d = ⊎_elim
    (λ (h : (n ≡ m) × (d ≡ e)). (
      (λ free. subst (λ (x : Holder). x ≢ Free) (λ j. holder (sym h.0 j) (sym h.1 j))
          (kept (subst (λ (x : Holder). x ≢ Free) (put2-same holder m e n d y h.0 h.1) free))),
      (λ c is. absurd (unfilled c (sym (put2-same holder m e n d y h.0 h.1) ∙ is))),
    ))
    (λ (ne : n ≡ m → d ≢ e). (
      (λ free. subst (λ (x : Holder). x ≢ Free) (put2-other holder m e n d y ne) free),
      (λ c is. sym (put2-other holder m e n d y ne) ∙ is),
    ))
    (here_or m n e d)

module _ (a : About) (log log' : List Entry) (s t : Plain) (fresh fresh' : ℕ → List Fresh) (tally : ℕ → List Sight)
    (holder holder' : ℕ → ℕ → Holder) (taker : ℕ → ℕ → ℕ → ℕ) (more : (m d : ℕ) → begun_in log fresh m d ≤ begun_in log' fresh' m d) where
  pub shown_step : HaveCausesBy a.shape a.version (begun_in log' fresh') log' t
      → ((d : ℕ) → (fresh d ≡ []) ⊎ (in_run (events_of d log) ≡ true) → (fresh' d ≡ []) ⊎ (in_run (events_of d log') ≡ true))
      → ((p : Span) → HasHadValue s p → HasHadValue t p)
      → Settles holder holder'
      → ((c m e : ℕ) → c < a.shape.cpus → HasElement a m e → 1 ≤ times_fresh m e (fresh c) →
      (HasHadValue t (element_span m (shape_at a m) e) × (holder m e ≢ Free)) ⊎ (1 ≤ times_fresh m e (fresh' c)))
      → Shown a log s fresh tally holder taker → Shown a log' t fresh' tally holder' taker
  unfolding took_more
  shown_step causes runs had settles hand p = record {
    causes = causes;
    running = λ d. runs d (p.running d);
    took = λ m e at held.
        let k = p.took m e at ((settles m e).0 held) in
        (took_more a log log' fresh fresh' taker m e more k.0, λ c is. k.1 c ((settles m e).1 c is));
    taken = λ c m e inside at seen. ⊎_elim
        (λ (k : (u : Took a log fresh taker m e) × (HasHadValue s (element_span m (shape_at a m) e) ⊎ (u.cpu ≢ c))).
        inl (
          took_more a log log' fresh fresh' taker m e more k.0,
          ⊎_elim
              (λ (v : HasHadValue s (element_span m (shape_at a m) e)). inl (had (element_span m (shape_at a m) e) v))
              (λ (ne : k.0.cpu ≢ c). inr ne) k.1,
        ))
        (λ (h : 1 ≤ times_fresh m e (fresh c)). ⊎_elim
        (λ (v : HasHadValue t (element_span m (shape_at a m) e) × (holder m e ≢ Free)). inl
        (took_more a log log' fresh fresh' taker m e more (p.took m e at v.1).0, inl v.0))
        (λ (f : 1 ≤ times_fresh m e (fresh' c)). inr f)
        (hand c m e inside at h))
        (p.taken c m e inside at seen);
  }

-- an event more that begins and ends no run, and the values that there were
pub shown_more : (a : About) (log : List Entry) (c : ℕ) (ev : Event) (s t : Plain) (fresh : ℕ → List Fresh) (tally : ℕ → List Sight)
    (holder : ℕ → ℕ → Holder) (taker : ℕ → ℕ → ℕ → ℕ) → turns_of (ev ∷ []) ≡ 0 → Legal (as_made a.shape) log s → Allowed s c ev t
    → HasCause a.version (begun_in log fresh) (record { shape = a.shape; before = log; store = s; cpu = c }) ev →
    ((p : Span) → HasHadValue s p → HasHadValue t p) → Shown a log s fresh tally holder taker → Shown a (log ++ entry c ev ∷ []) t fresh
    tally holder taker
shown_more a log c ev s t fresh tally holder taker quiet legal may cause had p =
    shown_step a log (log ++ entry c ev ∷ []) s t fresh fresh tally holder holder taker (begun_event log fresh c ev)
    (causes_on a log s t fresh fresh c ev (begun_event log fresh c ev) legal may p.causes cause)
    (λ d r. ⊎_elim (λ (none : fresh d ≡ []). inl none) (λ (run : in_run (events_of d log) ≡ true). inr (run_quiet c d ev log quiet run)) r)
    had (settled holder) (λ b m e inside at h. inr h) p

-- ---- holders and hands
and_false : (z : Bool) → z && false ≡ false
and_false true = refl
and_false false = refl

differ : (f : Fresh) (n d : ℕ) → (n ≡ f.map → d ≢ f.element) → one_if ((f.map == n) && (f.element == d)) ≡ 0
differ f n d ne = ap one_if (⊎_elim
    (λ (t : n ≡ f.map). ap (λ (z : Bool). (f.map == n) && z) (ne_eqb f.element d (λ (q : f.element ≡ d). ne t (sym q))) ∙ and_false (f.map == n))
    (λ (nd : n ≢ f.map). ap (λ (z : Bool). z && (f.element == d)) (ne_eqb f.map n (λ (q : f.map ≡ n). nd (sym q))))
    (cases_eq n f.map))

-- the first element leaves a hand: any other is there as before
pub hand_rest : (fresh : ℕ → List Fresh) (c : ℕ) (f : Fresh) (rest : List Fresh) → fresh c ≡ f ∷ rest → (b n d : ℕ) → 1 ≤ times_fresh n d
    (fresh b) → ((n ≡ f.map) × (d ≡ f.element)) ⊎ (1 ≤ times_fresh n d (put fresh c rest b))
hand_rest fresh c f rest is b n d has = ⊎_elim
    (λ (t : b ≡ c). ⊎_elim
    (λ (h : (n ≡ f.map) × (d ≡ f.element)). inl h)
    (λ (ne : n ≡ f.map → d ≢ f.element).
    let z = differ f n d ne in
    let q : times_fresh n d (fresh b) ≡ times_fresh n d (f ∷ rest) = ap (times_fresh n d) (ap fresh t ∙ is) in
    let u : times_fresh n d (put fresh c rest b) ≡ times_fresh n d rest = ap (times_fresh n d) (put-same fresh c b rest t) in
    inr (omega arith))
    (here_or f.map n f.element d))
    (λ (ne : b ≢ c). let u : times_fresh n d (put fresh c rest b) ≡ times_fresh n d (fresh b) = ap (times_fresh n d) (put-other fresh c b rest ne) in
    inr (omega arith))
    (cases_eq b c)

pub hand_more : (fresh : ℕ → List Fresh) (c : ℕ) (f : Fresh) (b n d : ℕ) → 1 ≤ times_fresh n d (fresh b) → 1 ≤ times_fresh n d (put fresh c (f ∷ fresh c) b)
hand_more fresh c f b n d has = ⊎_elim
    (λ (t : b ≡ c).
    let q : times_fresh n d (fresh b) ≡ times_fresh n d (fresh c) = ap (λ (i : ℕ). times_fresh n d (fresh i)) t in
    let u : times_fresh n d (put fresh c (f ∷ fresh c) b) ≡ times_fresh n d (f ∷ fresh c) = ap (times_fresh n d) (put-same fresh c b (f ∷ fresh c) t) in
    omega arith)
    (λ (ne : b ≢ c). let u : times_fresh n d (put fresh c (f ∷ fresh c) b) ≡ times_fresh n d (fresh b) = ap (times_fresh n d) (put-other fresh c b (f ∷ fresh c) ne) in
    omega arith)
    (cases_eq b c)

-- ---- a sight more
-- the element was taken by an update that was begun, of another CPU, or it has had a value
abbrev pub IsAnothers : About → Ghost → (ℕ → List Fresh) → ℕ → ℕ → ℕ → Type 0
IsAnothers a g fresh c m e = (t : Took a g.log fresh g.taker m e) × (HasHadValue g.last (element_span m (shape_at a m) e) ⊎ (t.cpu ≢ c))

module _ (a : About) (w : Place → ℕ) (g : Ghost) (r : Rule a w g) where
  -- an element whose bit is clear
  not_free : (c m e : ℕ) → c < a.shape.cpus → HasElement a m e → bit_at (w (FreeBits m (e / 64))) (e % 64) ≡ 0 → IsAnothers a g
      g.lanes.fresh c m e ⊎ (1 ≤ times_fresh m e (g.lanes.fresh c))
  not_free c m e inside at clear = go (g.holder m e) refl
    where
      carried : Carries (g.holder m e) → HasHadValue g.last (element_span m (shape_at a m) e)
      carried has = (g.number m e, r.valued.older m e at has, ap (λ (x : Value). x.span) (r.valued.lies m e at has))

      held : (x : Holder) → g.holder m e ≡ x → x ≢ Free → (t : Took a g.log g.lanes.fresh g.taker m e) × ((b : ℕ) → g.holder m e ≡ Filling b → t.cpu ≡ b)
      held x is ne = r.shown.took m e at (λ (q : g.holder m e ≡ Free). ne (sym is ∙ q))

      go : (x : Holder) → g.holder m e ≡ x → IsAnothers a g g.lanes.fresh c m e ⊎ (1 ≤ times_fresh m e (g.lanes.fresh c))
      go Free is = absurd (let z = r.owned.bits m e at in
          let y : one_if (is_free (g.holder m e)) ≡ 1 = ap (λ (x : Holder). one_if (is_free x)) is in omega arith)
      go (Filling d) is = ⊎_elim
          (λ (t : d ≡ c). let z = r.owned.fresh_is c m e inside at in
          let y : one_if (is_filling c (g.holder m e)) ≡ 1 = ap (λ (x : Holder). one_if (is_filling c x)) is ∙ ap one_if (eq-eqb d c t) in
          inr (omega arith))
          (λ (ne : d ≢ c). let k = held (Filling d) is (λ (q : Filling d ≡ Free). cc) in inl (k.0, inr (λ (q : k.0.cpu ≡ c). ne (sym (k.1 d is) ∙ q))))
          (cases_eq d c)
      go (Leaving d) is = inl ((held (Leaving d) is (λ (q : Leaving d ≡ Free). cc)).0, inl (carried (subst Carries (sym is) tt)))
      go (Within d) is = inl ((held (Within d) is (λ (q : Within d ≡ Free). cc)).0, inl (carried (subst Carries (sym is) tt)))

  -- what is in hand isn't free
  pub hand_held : (c m e : ℕ) → c < a.shape.cpus → HasElement a m e → 1 ≤ times_fresh m e (g.lanes.fresh c) → g.holder m e ≢ Free
  hand_held c m e inside at has free =
      let q = r.owned.fresh_is c m e inside at in
      let z : one_if (is_filling c (g.holder m e)) ≡ 0 = ap (λ (x : Holder). one_if (is_filling c x)) free in omega arith

  pub shown_noted : (c : ℕ) (s : Sight) → w s.place ≡ s.left → Shown a g.log g.last g.lanes.fresh (put g.lanes.tally c (s ∷ g.lanes.tally c)) g.holder g.taker
  shown_noted c s left = record {
    causes = r.shown.causes;
    running = r.shown.running;
    took = r.shown.took;
    taken = λ b m e inside at seen. ⊎_elim
        (λ (t : b ≡ c).
        let here : LeavesElements m s × (ShowsTaken s m e ⊎ IsTakenSince (g.lanes.tally c) m e) = subst
        (λ (z : List Sight). IsTakenSince z m e) (put-same g.lanes.tally c b (s ∷ g.lanes.tally c) t) seen in ⊎_elim
        (λ (shows : ShowsTaken s m e). not_free b m e inside at
        (ap (λ (p : Place). bit_at (w p) (e % 64)) (sym shows.0) ∙ (ap (λ (n : ℕ). bit_at n (e % 64)) (left ∙ here.0 (e / 64) shows.0) ∙ shows.1)))
        (λ (before : IsTakenSince (g.lanes.tally c) m e). r.shown.taken b m e inside at (subst (λ (i : ℕ). IsTakenSince (g.lanes.tally i) m e) (sym t) before))
        here.1)
        (λ (ne : b ≢ c). r.shown.taken b m e inside at (subst (λ (z : List Sight). IsTakenSince z m e)
        (put-other g.lanes.tally c b (s ∷ g.lanes.tally c) ne) seen))
        (cases_eq b c);
  }

  -- a lane with no element in hand, which saw each element of the map not free
  pub lack_cause : (l : Known) (m : ℕ) → lane g.lanes l.cpu ≡ l → l.cpu < a.shape.cpus → m < length a.shape.maps → SawAllTaken a l m →
      EachMayBeTaken (record { shape = a.shape; before = g.log; store = g.last; cpu = l.cpu }) (begun_in g.log g.lanes.fresh m) m
  lack_cause l m is inside in_map saw = (
    g.taker m,
    λ e few. ⊎_elim
        (λ (may : IsAnothers a g g.lanes.fresh l.cpu m e).
        let t = may.0 in record {
          cpu = t.cpu;
          update = t.update;
          inside = t.inside;
          this = t.this;
          begun = begun t.cpu t.update t.begun;
          ends = t.begun;
          valued = may.1;
        })
        (λ (has : 1 ≤ times_fresh m e (g.lanes.fresh l.cpu)). absurd
        (let z : times_fresh m e (g.lanes.fresh l.cpu) ≡ 0 = ap (times_fresh m e) empty in omega arith))
        (r.shown.taken l.cpu m e inside (in_map, few) (subst (λ (x : Known). IsTakenSince x.tally m e) (sym is) (saw.taken e few))),
  )
    where
      empty : g.lanes.fresh l.cpu ≡ []
      empty = ap (λ (x : Known). x.fresh) is ∙ saw.hand

      begun : (c n : ℕ) → n < begun_in g.log g.lanes.fresh m c → (n < updates_in g.log m c) ⊎
          ((c ≢ l.cpu) × (n ≡ updates_in g.log m c) × (in_run (events_of c g.log) ≡ true))
      begun c n less = dite (dec_lt n (updates_in g.log m c))
          (λ (few : n < updates_in g.log m c). inl few)
          (λ (nf : n < updates_in g.log m c → ⊥).
          let some : 1 ≤ taken_at m (updates_in g.log m c) (g.lanes.fresh c) = grind arith in
          let most = taken_at_most m (updates_in g.log m c) (g.lanes.fresh c) in
          let none : g.lanes.fresh c ≡ [] → ⊥ = (λ (q : g.lanes.fresh c ≡ []).
          let z : taken_at m (updates_in g.log m c) (g.lanes.fresh c) ≡ 0 = ap (taken_at m (updates_in g.log m c)) q in omega arith) in
          inr (
            (λ (q : c ≡ l.cpu). none (ap g.lanes.fresh q ∙ empty)),
            grind arith,
            ⊎_elim (λ (q : g.lanes.fresh c ≡ []). absurd (none q)) (λ (run : in_run (events_of c g.log) ≡ true). run) (r.shown.running c),
          ))
