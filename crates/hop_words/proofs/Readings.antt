-- Readings without a lock: see stamp, peek, see stamp again.
use Rattle.std.proofs.Common.{◌≡◌, ◌≢◌, ℕ, ◌%◌, ◌<◌, Bool, true, false, List, [], ◌∷◌, ◌++◌, Option, Some, None, length, refl, ap, sym}
use Rattle.std.proofs.Common.{subst, ◌∙◌, arith, eq-eqb, ne_eqb, ⊎_elim, inl, inr, ◌⊎◌, ◌-◌, ◌≤◌}
use native.Mathlib.Decide.{ℕ_discrete}
use mathlib.Core.Logic.{dite}
use Rattle.std.specs.FinMap.{get}
use Rattle.std.proofs.lemmas.Bool.{cases_eq}
use Rattle.bpf_shared.specs.declared.events.Event.{Event}
use Rattle.bpf_shared.specs.declared.events.Event.TheVariants.{Lookup}
use Rattle.bpf_shared.specs.declared.events.Span.{Span}
use Rattle.bpf_shared.specs.Shape.{IsMap, element_span}
use Rattle.bpf_shared.specs.Store.{Plain, put}
use Rattle.bpf_shared.specs.Events.{Allowed, after_lookup, span_of}
use Rattle.bpf_shared.specs.History.{entry}
use Rattle.bpf_shared.proofs.Puts.{put-same, put-other, put_pair}
use Rattle.hop_layout.specs.declared.place.Place.{Place}
use Rattle.hop_layout.specs.declared.place.Place.TheVariants.{RunCount, KeyCount, FreeBits, Stamp, Head, Hop, Slot, Link, KeyWord, ValueWord, FixedWord}
use Rattle.hop_layout.specs.declared.about.About.{About}
use Rattle.hop_words.specs.declared.known.Known.{Known}
use Rattle.hop_words.specs.declared.known.Lock.{Lock}
use Rattle.hop_words.specs.declared.known.Reading.{Reading}
use Rattle.hop_layout.specs.Layout.{mem, put_at, size, power, depth}
use Rattle.hop_words.specs.Content.{MapWords, words_by_place, AgreesInSegment, Reached, IsShare}
use Rattle.hop_words.specs.Ghost.{Leaving, Within, Carries, lane, Ghost, shape_at, Each, Era}
use Rattle.hop_words.specs.Rule.{Rule, Segment, Holds, IsSoundReading, Readings, IsPeek, numbered, Runs, Batched, Valued, ShowsFixed}
use Rattle.hop_words.specs.Shortage.{HasHadValue}
use Rattle.hop_words.specs.Private.Step.{Next, Steps}
use Rattle.hop_words.specs.Kinds.{TakesEffect, noting, FindsByPeeks, found_span, KnowsBorn, SaysDepth, StampNoted}
use Rattle.hop_words.proofs.Histories.{logged_event, prefix_refl}
use Rattle.hop_words.proofs.Shortages.{shown_more}
use Rattle.hop_words.proofs.Comes.{in_limbo}
use Rattle.hop_words.proofs.Stays.{put_again, stay, saw, running_is, map_there, quiet_after, number_once, worn_more}
use Rattle.hop_words.specs.Depths.{stamp_depth, IsBorn, home_by}
use Rattle.hop_layout.proofs.Births.{one_owner}
use Rattle.hop_words.proofs.Locks.{known_born}

-- readings alone change
module _ (a : About) (w : Place → ℕ) (g : Ghost) (r : Rule a w g) (c : ℕ) where
  abbrev with_readings : List Reading → Ghost
  with_readings rs = record g { lanes = record g.lanes { readings = put g.lanes.readings c rs } }

  put_readings : (rs : List Reading) → Each (IsSoundReading a g.depths g.eras) rs → Readings a g.depths g.eras (put g.lanes.readings c rs)
  put_readings rs own d = ⊎_elim
      (λ (t : d ≡ c). subst (Each (IsSoundReading a g.depths g.eras)) (sym (put-same g.lanes.readings c d rs t)) own)
      (λ (ne : d ≢ c). subst (Each (IsSoundReading a g.depths g.eras)) (sym (put-other g.lanes.readings c d rs ne)) (r.reading d))
      (cases_eq d c)

  read_rule : (rs : List Reading) → Each (IsSoundReading a g.depths g.eras) rs → Rule a w (with_readings rs)
  read_rule rs own = record {
    shaped = r.shaped;
    fixed = r.fixed;
    deep = r.deep;
    logged = r.logged;
    keyed = r.keyed;
    worn = r.worn;
    runs = r.runs;
    batched = r.batched;
    owned = r.owned;
    linked = r.linked;
    filled = r.filled;
    segments = r.segments;
    locking = r.locking;
    reading = put_readings rs own;
    held = r.held;
    valued = r.valued;
    shown = r.shown;
  }

  read_next : (p : Place) (told : Known → Type 0) (rs : List Reading) → Each (IsSoundReading a g.depths g.eras) rs → told
      (record (lane g.lanes c) { readings = rs }) → Next a (put_at w p (w p)) g c told
  read_next p told rs own says = record {
    ghost = with_readings rs;
    rule = subst (λ (v : Place → ℕ). Rule a v (with_readings rs)) (sym (put_again w p)) (read_rule rs own);
    others = λ d ne. rw (ne_eqb d c ne) refl;
    longer = prefix_refl g.log;
    tally = refl;
    says = subst told (sym after) says;
  }
    where
      after : lane (with_readings rs).lanes c ≡ record (lane g.lanes c) { readings = rs }
      after = rw (eq-eqb c c refl) refl

pub even_or_odd : (n : ℕ) → (n % 2 ≡ 0) ⊎ (n % 2 ≡ 1)
even_or_odd n = dite (ℕ_discrete (n % 2) 0) (λ e. inl e) (λ ne. inr (grind arith))

-- what a born segment's stamp says of its depth
pub says_depth : (a : About) (w : Place → ℕ) (g : Ghost) (r : Rule a w g) (m s : ℕ) → IsBorn a g.depths m s → SaysDepth a m s (w (Stamp m s))
says_depth a w g r m s b =
    let says = r.deep.stamped m s b in
    let k = r.deep.sound m b.0 s b.2 in
    record { room = subst (λ (i : ℕ). s < power i) (sym says) k.0; most = (let z = k.1 in omega arith); whole = λ no. says ∙ r.deep.whole m s b.0 b.1 no }

pub see_stamp : (a : About) (l : Known) (m s : ℕ) → m < length a.shape.maps → KnowsBorn a l m s → Steps a l (Stamp m s) (λ n. n)
    (λ ws n l'. SaysDepth a m s n × (n % 2 ≡ 0 → l' ≡ noting l m s n) × (n % 2 ≡ 1 → l' ≡ l))
see_stamp a l m s in_m knows ws g sized r is inside fits =
    let w = mem a.shape ws in
    let n = w (Stamp m s) in
    let at_s = known_born a w g r l is m s in_m knows in
    let says = says_depth a w g r m s at_s in
    let seg : Segment a g.depths (words_by_place w) n (g.eras m s) m s (g.linked m) = r.segments m s at_s in
    ⊎_elim
    (λ (even : n % 2 ≡ 0). read_next a w g r l.cpu (Stamp m s) _ (record { map = m; segment = s; stamp = n; peeks = [] } ∷ []) (
      record {
        inside = at_s;
        deep = (let z = r.deep.stamped m s at_s in omega arith);
        even = even;
        behind =
            (let z = (seg.clean (seg.at_rest even)).0 in omega arith);
        stays = λ _. tt;
      },
      tt,
    )
    (says, (λ _. ap (λ (x : Known). record x { readings = record { map = m; segment = s; stamp = n; peeks = [] } ∷ [] }) is), (λ odd. absurd (omega arith))))
    (λ (odd : n % 2 ≡ 1). stay a w g l.cpu (Stamp m s) _ r (says, (λ even. absurd (omega arith)), (λ _. is)))
    (even_or_odd n)

-- two born segments that own one home are one
owned_once : (a : About) (w : Place → ℕ) (g : Ghost) (r : Rule a w g) (c m s home : ℕ) → IsBorn a g.depths m s → home % power (g.depths m s) ≡ s
    → (ks : List Lock) → Each (Holds a g.depths (words_by_place w) (λ i j. w (Stamp i j)) g.eras g.linked g.holder c) ks
    → Each (λ (k : Lock). k.map ≡ m → home % power (stamp_depth k.stamp) ≡ k.segment → (k.segment ≡ s) × (stamp_depth k.stamp ≡ stamp_depth (w (Stamp m s)))) ks
owned_once a w g r c m s home at_s own [] p = tt
owned_once a w g r c m s home at_s own (k ∷ ks) p = (
  (λ e here.
      let b : IsBorn a g.depths m k.segment = subst (λ (i : ℕ). IsBorn a g.depths i k.segment) e p.0.inside in
      let d : stamp_depth k.stamp ≡ g.depths m k.segment = p.0.deep ∙ ap (λ (i : ℕ). g.depths i k.segment) e in
      let same : k.segment ≡ s = one_owner (g.depths m) (depth (shape_at a m)) k.segment s home b.2 at_s.2
      (ap (λ (i : ℕ). home % power i) (sym d) ∙ here) own in
      (same, d ∙ (ap (g.depths m) same ∙ sym (r.deep.stamped m s at_s)))),
  owned_once a w g r c m s home at_s own ks p.1,
)

-- a stamp on the way to a key's segment, locked or not: what the lock took is noted of a locked one
pub note_stamp : (a : About) (l : Known) (m s : ℕ) → m < length a.shape.maps → KnowsBorn a l m s → Steps a l (Stamp m s) (λ n. n)
    (λ ws n l'. StampNoted a l m s n l')
note_stamp a l m s in_m knows ws g sized r is inside fits =
    let w = mem a.shape ws in
    let n = w (Stamp m s) in
    let at_s = known_born a w g r l is m s in_m knows in
    let seg : Segment a g.depths (words_by_place w) n (g.eras m s) m s (g.linked m) = r.segments m s at_s in
    read_next a w g r l.cpu (Stamp m s) _ (record { map = m; segment = s; stamp = n - n % 2; peeks = [] } ∷ []) (
      record {
        inside = at_s;
        deep = (let z = r.deep.stamped m s at_s in omega arith);
        even = (omega arith);
        behind = behind n (g.eras m s)
            seg;
        stays = λ _. tt;
      },
      tt,
    )
    (record {
      deep = says_depth a w g r m s at_s;
      owns = λ home own. owned_once a w g r l.cpu m s home at_s (ap (λ (i : ℕ). home % power i) (sym (r.deep.stamped m s at_s)) ∙ own) l.locks
          (subst (Each (Holds a g.depths (words_by_place w) (λ i j. w (Stamp i j)) g.eras g.linked g.holder l.cpu))
          (ap (λ (x : Known). x.locks) is) (r.locking l.cpu));
      after = ap (λ (x : Known). record x { readings = record { map = m; segment = s; stamp = n - n % 2; peeks = [] } ∷ [] }) is;
    })
  where
    behind : (n : ℕ) (e : Era) → Segment a g.depths (words_by_place (mem a.shape ws)) n e m s (g.linked m) → n - n % 2 ≤ e.era
    behind n e seg = go e.dirty refl
      where
        go : (b : Bool) → e.dirty ≡ b → n - n % 2 ≤ e.era
        go true d = let z = seg.written d in omega arith
        go false d = let z = (seg.clean d).0 in omega arith

-- the words at rest are those that are there, while the era is the stamp noted
pub at_era : (a : About) (w : Place → ℕ) (g : Ghost) (r : Rule a w g) (rd : Reading) → IsSoundReading a g.depths g.eras rd → rd.stamp ≡
    (g.eras rd.map rd.segment).era
    → ((g.eras rd.map rd.segment).dirty ≡ false) × AgreesInSegment rd.map rd.segment
    (Reached (g.eras rd.map rd.segment).old rd.map rd.segment) (words_by_place w) (g.eras rd.map rd.segment).old
at_era a w g r rd q same = (clean, (seg.clean clean).1)
  where
    seg : Segment a g.depths (words_by_place w) (w (Stamp rd.map rd.segment)) (g.eras rd.map rd.segment) rd.map rd.segment (g.linked rd.map)
    seg = r.segments rd.map rd.segment q.inside

    go : (b : Bool) → (g.eras rd.map rd.segment).dirty ≡ b → b ≡ false
    go true d = let z = seg.written d in let e = q.even in sym d ∙ seg.at_rest (omega arith)
    go false d = refl

    clean : (g.eras rd.map rd.segment).dirty ≡ false
    clean = let d = go (g.eras rd.map rd.segment).dirty refl in d

is_peek : (m s : ℕ) (w : Place → ℕ) (x : MapWords) → AgreesInSegment m s (Reached x m s) (words_by_place w) x → (p : Place) → IsPeek x m s p (w p)
is_peek m s w x k (RunCount c) = tt
is_peek m s w x k (KeyCount n) = tt
is_peek m s w x k (FreeBits n i) = tt
is_peek m s w x k (Stamp n t) = tt
is_peek m s w x k (Head n t) = λ h u. sym k.head ∙ (λ j. w (Head (sym h j) (sym u j)))
is_peek m s w x k (Hop n t b) = λ h u. sym (k.hop b) ∙ (λ j. w (Hop (sym h j) (sym u j) b))
is_peek m s w x k (Slot n t b) = λ h u. sym (k.slot b) ∙ (λ j. w (Slot (sym h j) (sym u j) b))
is_peek m s w x k (Link n e) = λ h u. sym (k.link e u) ∙ (λ j. w (Link (sym h j) e))
is_peek m s w x k (KeyWord n e i) = λ h u. sym (k.key e i u) ∙ (λ j. w (KeyWord (sym h j) e i))
is_peek m s w x k (ValueWord n e i) = tt
is_peek m s w x k (FixedWord b i) = tt

-- the reading has one word more
abbrev pub read_more : Known → Reading → Place → ℕ → Known
read_more l r p n = record l { readings = record r { peeks = record { place = p; number = n } ∷ r.peeks } ∷ [] }

pub peek : (a : About) (l : Known) (rd : Reading) (p : Place) → l.readings ≡ rd ∷ [] → Steps a l p (λ n. n) (λ ws n l'. l' ≡ read_more l rd p n)
peek a l rd p reading ws g sized r is inside fits =
    let w = mem a.shape ws in
    let q : IsSoundReading a g.depths g.eras rd = (subst (Each (IsSoundReading a g.depths g.eras))
    (ap (λ (x : Known). x.readings) is ∙ reading) (r.reading l.cpu)).0 in
    read_next a w g r l.cpu p _ (record rd { peeks = record { place = p; number = w p } ∷ rd.peeks } ∷ []) (
      record {
        inside = q.inside;
        deep = q.deep;
        even = q.even;
        behind = q.behind;
        stays = λ same.
            (is_peek rd.map rd.segment w (g.eras rd.map rd.segment).old (at_era a w g r rd q same).1 p, q.stays same);
      },
      tt,
    )
    (ap (λ (x : Known). record x { readings = record rd { peeks = record { place = p; number = w p } ∷ rd.peeks } ∷ [] }) is)

-- ---- see stamp again: the lookup takes effect
some_span : (s : Plain) (n : ℕ → ℕ) (a : About) (m : ℕ) (o : Option ℕ) →
    ((e : ℕ) → o ≡ Some e → (s.value (n e)).span ≡ element_span m (shape_at a m) e) → found_span a m o ≡ span_of s (numbered n o)
some_span s n a m None same = refl
some_span s n a m (Some e) same = ap Some (sym (same e refl))

module _ (a : About) (w : Place → ℕ) (g : Ghost) (r : Rule a w g) (c m : ℕ) where
  -- what the CPU holds after a lookup
  abbrev pub looking : Option ℕ → Plain
  looking None = g.last
  looking (Some e) = record g.last { held = put g.last.held c (put (g.last.held c) (g.number m e) true) }

  pub looked_is : (o : Option ℕ) → looking o ≡ after_lookup g.last c (numbered (g.number m) o)
  looked_is None = refl
  looked_is (Some e) = refl

  pub looked_batched : (o : Option ℕ) (key : List ℕ) → g.linked m key ≡ o → Batched a (λ n d. w (Link n d)) (λ d. w (RunCount d))
      g.lanes.limbo (looking o).held g.number
  looked_batched None key is = r.batched
  looked_batched (Some e) key is = record {
    young = r.batched.young;
    old = r.batched.old;
    noted = λ b n d x inb at_d has few holds. ⊎_elim
        (λ (t : (x ≡ c) × (g.number n d ≡ g.number m e)).
        let k = r.linked.within m key e is in
        let left = in_limbo a _ g.lanes.fresh g.lanes.limbo g.holder b n d r.owned inb at_d (omega arith) in
        let one = number_once a w g r m e n d k.0 at_d (subst Carries (sym k.1) tt) (subst Carries (sym left) tt) t.1 in
        let bad : Leaving b ≡ Within key = sym left ∙ ((λ i. g.holder (one.0 i) (one.1 i)) ∙ k.1) in cc)
        (λ (h : g.last.held x (g.number n d) ≡ true). r.batched.noted b n d x inb at_d has few h)
        (put_pair g.last.held c (g.number m e) x (g.number n d) holds);
  }

  pub looked_valued : (o : Option ℕ) (key : List ℕ) → g.linked m key ≡ o → Valued a (λ n d k. w (ValueWord n d k)) (looking o).made
      (looking o).value (looking o).held g.holder g.number
  looked_valued None key is = r.valued
  looked_valued (Some e) key is = record {
    lies = r.valued.lies;
    older = r.valued.older;
    held_in = λ x v holds. ⊎_elim
        (λ (t : (x ≡ c) × (v ≡ g.number m e)). let k = r.linked.within m key e is in (m, e, k.0, subst Carries (sym k.1) tt, sym t.1))
        (λ (h : g.last.held x v ≡ true). r.valued.held_in x v h)
        (put_pair g.last.held c (g.number m e) x v holds);
  }

  values_still : (o : Option ℕ) → (looking o).value ≡ g.last.value
  values_still None = refl
  values_still (Some e) = refl

  pub maps_same : (o : Option ℕ) → (looking o).maps ≡ g.last.maps
  maps_same None = refl
  maps_same (Some e) = refl

  looked_had : (o : Option ℕ) (p : Span) → HasHadValue g.last p → HasHadValue (looking o) p
  looked_had None p h = h
  looked_had (Some e) p h = h

  -- the rule after a lookup, whatever else its lane has by then
  pub looked_rule : (o : Option ℕ) (key : List ℕ) (inside : c < a.shape.cpus) → g.linked m key ≡ o → (sp : Option Span) → Allowed g.last c
      (Lookup m key sp) (looking o) → Rule a w (record g {
        log = g.log ++ entry c (Lookup m key sp) ∷ [];
        last = looking o;
        lanes = record
            g.lanes { seen = put g.lanes.seen c (g.log ++ entry c (Lookup m key sp) ∷ []) };
      })
  looked_rule o key inside is sp may = record {
    shaped = r.shaped;
    deep = r.deep;
    logged = logged_event a g.lanes.seen g.log g.last (looking o) c (Lookup m key sp) r.logged inside may;
    keyed = rw (maps_same o) r.keyed;
    worn = worn_more a g.depths _ g.eras g.log _ r.worn;
    runs = quiet_runs;
    batched = looked_batched o key is;
    owned = r.owned;
    linked = r.linked;
    filled = r.filled;
    segments = r.segments;
    locking = r.locking;
    reading = r.reading;
    held = r.held;
    fixed = subst (ShowsFixed a (λ b k. w (FixedWord b k))) (sym (values_still o)) r.fixed;
    valued = looked_valued o key is;
    shown = shown_more a g.log c (Lookup m key sp) g.last (looking o) g.lanes.fresh g.lanes.tally g.holder g.taker refl r.logged.legal may
        tt (looked_had o) r.shown;
  }
    where
      quiet_runs : Runs a (λ d. w (RunCount d)) (g.log ++ entry c (Lookup m key sp) ∷ [])
      quiet_runs = quiet_after a (λ d. w (RunCount d)) g.log c (Lookup m key sp) r.runs refl

  pub may_look : (o : Option ℕ) (key : List ℕ) → g.linked m key ≡ o → g.last.running c ≡ true → IsMap g.last.shape.maps m (shape_at a m) →
      length key ≡ (shape_at a m).key → Allowed g.last c (Lookup m key (found_span a m o)) (looking o)
  may_look o key is runs there size =
      let at_key : get (g.last.maps m) key ≡ numbered (g.number m) o = r.keyed.leads m key ∙ ap (numbered (g.number m)) is in (
        runs,
        (
          (shape_at a m, there, size),
          some_span g.last (g.number m) a m o
              (λ e eq. let k = r.linked.within m key e (is ∙ eq) in ap (λ x. x.span) (r.valued.lies m e k.0 (subst Carries (sym k.1) tt))) ∙
              ap (span_of g.last) (sym at_key),
          looked_is o ∙ ap (after_lookup g.last c) (sym at_key),
        ),
      )

-- the lookup's event, where the stamp is the same
pub record AgainFound (a : About) (l : Known) (rd : Reading) (key : List ℕ) (o : Option ℕ) (l' : Known) : Type 0 where
  pub seen : TakesEffect a l (Lookup rd.map key (found_span a rd.map o)) l'.seen
  pub after : l' ≡ record l { seen = l'.seen; readings = [] }

abbrev pub AgainSeen : About → Known → Reading → List ℕ → Option ℕ → ℕ → Known → Type 0
AgainSeen a l rd key o n l' = (n ≡ rd.stamp → AgainFound a l rd key o l') × (n ≢ rd.stamp → l' ≡ record l { readings = [] })

pub see_again : (a : About) (l : Known) (rd : Reading) (key : List ℕ) (o : Option ℕ) → FindsByPeeks a l rd key o
    → Steps a l (Stamp rd.map rd.segment) (λ n. n) (λ ws n l'. AgainSeen a l rd key o n l')
see_again a l rd key o f ws g sized r is inside fits = dite (ℕ_discrete (w (Stamp rd.map rd.segment)) rd.stamp) hit miss
  where
    w : Place → ℕ
    w = mem a.shape ws

    told : Known → Type 0
    told l' = AgainSeen a l rd key o (w (Stamp rd.map rd.segment)) l'

    q : IsSoundReading a g.depths g.eras rd
    q = (subst (Each (IsSoundReading a g.depths g.eras)) (ap (λ (x : Known). x.readings) is ∙ f.reading) (r.reading l.cpu)).0

    seg : Segment a g.depths (words_by_place w) (w (Stamp rd.map rd.segment)) (g.eras rd.map rd.segment) rd.map rd.segment (g.linked rd.map)
    seg = r.segments rd.map rd.segment q.inside

    miss : w (Stamp rd.map rd.segment) ≢ rd.stamp → Next a (put_at w (Stamp rd.map rd.segment) (w (Stamp rd.map rd.segment))) g l.cpu told
    miss ne = read_next a w g r l.cpu (Stamp rd.map rd.segment) told [] tt ((λ e. absurd (ne e)), (λ _. ap (λ (x : Known). record x { readings = [] }) is))

    hit : w (Stamp rd.map rd.segment) ≡ rd.stamp → Next a (put_at w (Stamp rd.map rd.segment) (w (Stamp rd.map rd.segment))) g l.cpu told
    hit same = record {
      ghost = g2;
      rule = subst (λ (v : Place → ℕ). Rule a v g2) (sym (put_again w (Stamp rd.map rd.segment))) (read_rule a w g1 rule1 l.cpu [] tt);
      others = λ d ne. rw (ne_eqb d l.cpu ne) refl;
      longer = (entry l.cpu event ∷ [], refl);
      tally = refl;
      says = ((λ _. found), (λ ne. absurd (ne same)));
    }
      where
        event : Event
        event = Lookup rd.map key (found_span a rd.map o)

        clean : (g.eras rd.map rd.segment).dirty ≡ false
        clean = seg.at_rest (let z = q.even in omega arith)

        era_is : rd.stamp ≡ (g.eras rd.map rd.segment).era
        era_is = let z = (seg.clean clean).0 in let e = q.even in omega arith

        linked_is : g.linked rd.map key ≡ o
        linked_is = f.shown (g.eras rd.map rd.segment).old (g.linked rd.map)
            (subst (λ (i : ℕ). IsShare a.seed (shape_at a rd.map) (home_by a rd.map i) (g.eras rd.map rd.segment).old rd.map rd.segment
            (g.linked rd.map)) (sym (ap stamp_depth (sym same) ∙ r.deep.stamped rd.map rd.segment q.inside)) (seg.shows clean))
            (λ p e leads. (r.linked.within rd.map p e leads).0.1) (q.stays era_is)

        may : Allowed g.last l.cpu event (looking a w g r l.cpu rd.map o)
        may = may_look a w g r l.cpu rd.map o key linked_is (running_is a w g r l is inside f.runs) (map_there a w g r l is inside rd.map q.inside.0) f.key_size

        g1 : Ghost
        g1 = record g {
          log = g.log ++ entry l.cpu event ∷ [];
          last = looking a w g r l.cpu rd.map o;
          lanes = record g.lanes
              { seen = put g.lanes.seen l.cpu (g.log ++ entry l.cpu event ∷ []) };
        }

        rule1 : Rule a w g1
        rule1 = looked_rule a w g r l.cpu rd.map o key inside linked_is (found_span a rd.map o) may

        g2 : Ghost
        g2 = with_readings a w g1 rule1 l.cpu []

        found : AgainFound a l rd key o (lane g2.lanes l.cpu)
        found = subst (AgainFound a l rd key o) (sym after) (record
            { seen = saw a w g r l is inside event (looking a w g r l.cpu rd.map o) may rule1.logged; after = refl })
          where
            after : lane g2.lanes l.cpu ≡ record l { seen = g.log ++ entry l.cpu event ∷ []; readings = [] }
            after = rw (eq-eqb l.cpu l.cpu refl) (ap (λ (x : Known). record x { seen = g.log ++ entry l.cpu event ∷ []; readings = [] }) is)
