-- The keys of a locked segment, one by one.
use Rattle.std.proofs.Common.{◌≡◌, ◌≢◌, ℕ, ◌+◌, ◌%◌, ◌<◌, ◌≤◌, Bool, true, false, ◌||◌, List, [], ◌∷◌, ◌++◌, Option, Some, None, is_some}
use Rattle.std.proofs.Common.{length, length-append, refl, ap, sym, subst, ◌∙◌, arith, inl, inr, ◌⊎◌, ⊎_elim, append_assoc, eq-eqb, ne_eqb}
use Rattle.std.proofs.lemmas.List.{append-nil}
use Rattle.std.specs.List.{AllByRecursion}
use Rattle.std.specs.Ordering.{nat_cmp, eq_by_cmp}
use Rattle.std.specs.Cmp.{eq_by_cmp_equiv}
use Rattle.std.specs.Cmp.Lexicographic.{slice_cmp}
use Rattle.std.proofs.lemmas.Cmp.{nat_list_cmp_total}
use Rattle.std.proofs.lemmas.Map.Keys.{IsDistinct-push}
use Rattle.std.proofs.lemmas.Bool.{false_from_ne_true}
use Rattle.bpf_shared.specs.Shape.{elements}
use Rattle.bpf_shared.specs.KeyOrder.{is_among, AreDistinct}
use Rattle.hop_layout.specs.declared.about.About.{About}
use Rattle.hop_words.specs.declared.known.Known.{Known}
use Rattle.hop_words.specs.declared.known.Lock.{Lock}
use Rattle.hop_words.specs.Content.{MapWords, Reached, IsShare, IsSegmentSound, HopsTo, IsOnList, LinksThrough, item, times}
use Rattle.hop_words.specs.Depths.{stamp_depth, home_by}
use Rattle.hop_words.specs.Ghost.{IsHomeIn, shape_at}
use Rattle.hop_words.specs.Rule.{image, changed}
use Rattle.hop_words.specs.Kinds.{MayLink, IsShownIn, KeysHaveRoom}
use Rattle.hop_words.specs.Locking.{lock_of, HasLastLock}
use Rattle.hop_words.specs.Listing.{ListsSegment}
use Rattle.hop_map.specs.Private.UnderLock.{LockShows}
use Rattle.hop_map.specs.Private.LockedSegment.{spelled_key}
use Rattle.hop_map.specs.Private.Listing.{Adds, Part, Opens, StandsBelow, StandsOr}
use Rattle.hop_map.proofs.Keys.{spells}
use Rattle.hop_map.proofs.Ports.{by_equal}
use Rattle.hop_map.proofs.Gathering.{among-append, at_key, all_append}

itself : (q : List ℕ) → eq_by_cmp (slice_cmp nat_cmp) q q ≡ true
itself q = (eq_by_cmp_equiv nat_list_cmp_total).refl q

module _ (a : About) (l : Known) (m s : ℕ) (c : LockShows a l m s) (last : HasLastLock l m s) where
  abbrev k : Lock
  k = lock_of l

  abbrev x : MapWords
  x = image a (lock_of l).copy

  abbrev key : ℕ → List ℕ
  key e = spelled_key a m (image a (lock_of l).copy) e

  share : IsShare a.seed (shape_at a m) (home_by a m (stamp_depth (lock_of l).stamp)) x m s c.content
  share = subst (λ (ws : List ℕ). IsShare a.seed (shape_at a m) (home_by a m (stamp_depth (lock_of l).stamp)) (image a ws) m s c.content) (sym c.copied) c.share

  -- an element's key leads to it, and is at home here
  module _ (e : ℕ) (r : Reached x m s e) where
    leads : (c.content (key e) ≡ Some e) × (home_by a m (stamp_depth (lock_of l).stamp) (key e) ≡ s)
    leads = let q = share.each e r in let same : key e ≡ q.0 = spells a m x e q.0 q.1 in
        (ap c.content same ∙ q.3, ap (home_by a m (stamp_depth (lock_of l).stamp)) same ∙ q.2)

    -- by what the lock says
    home_here : IsHomeIn a (lock_of l) (key e)
    home_here = ap (λ (i : ℕ). home_by a i (stamp_depth (lock_of l).stamp) (key e)) c.map ∙ (leads.1 ∙ sym c.segment)

    pub inside : e < elements (shape_at a m)
    inside = (c.all_known (key e) e leads.0 leads.1).0

    shows_it : (f : List ℕ → Option ℕ) → IsShare a.seed (shape_at a m) (home_by a m (stamp_depth (lock_of l).stamp)) x m s f → f (key e) ≡ Some e
    shows_it f sh = let q = sh.each e r in let same : key e ≡ q.0 = spells a m x e q.0 q.1 in ap f same ∙ q.3

    shows_at : (n t : ℕ) → n ≡ m → t ≡ s → (f : List ℕ → Option ℕ) → IsShare a.seed (shape_at a n)
        (home_by a n (stamp_depth (lock_of l).stamp)) (image a k.first) n t f → f (key e) ≡ Some e
    shows_at n t is_m is_s f sh = shows_it f
        (subst (λ (ws : List ℕ). IsShare a.seed (shape_at a m) (home_by a m (stamp_depth (lock_of l).stamp)) (image a ws) m s f) (sym c.copied)
        (subst (λ (j : ℕ). IsShare a.seed (shape_at a m) (home_by a m (stamp_depth (lock_of l).stamp)) (image a k.first) m j f) is_s
        (subst (λ (i : ℕ). IsShare a.seed (shape_at a i) (home_by a i (stamp_depth (lock_of l).stamp)) (image a k.first) i t f) is_m sh)))

    pub may : MayLink a l (lock_of l) e
    may = (
      subst (λ (i : ℕ). e < elements (shape_at a i)) (sym c.map) inside,
      inr (λ before sh. (
        key e,
        ap (λ y. changed y before (key e)) c.nothing ∙ shows_at k.map k.segment c.map c.segment before sh,
        home_here,
      )),
    )

    shown : IsShownIn a m l.locks (key e)
    shown = subst (λ (ks : List Lock). IsShownIn a m ks (key e)) (sym last.0)
        (inl (c.map, home_here, (λ f sh. ap is_some (shows_at k.map k.segment c.map c.segment f sh))))

  -- two elements have two keys
  one_element : (e d : ℕ) → Reached x m s e → Reached x m s d → key e ≡ key d → e ≡ d
  one_element e d r q same = let z : Some e ≡ Some d = sym (leads e r).0 ∙ (ap c.content same ∙ (leads d q).0) in cc

  module _ (old : List (List ℕ)) (none : (q : List ℕ) → IsHomeIn a (lock_of l) q → is_among q old ≡ false)
      (before : AllByRecursion (IsShownIn a m l.locks) old) (room : KeysHaveRoom a m l.locks) where
    part_none : AreDistinct old → Part a l m s old old (λ e. ⊥)
    part_none apart = record { more = []; is = sym (append-nil old); from = tt; all = λ e r p. absurd p; distinct = apart }

    -- one element more
    module _ (now : List (List ℕ)) (P Q : ℕ → Type 0) (p : Part a l m s old now P) (e : ℕ) (r : Reached x m s e) (fresh : P e → ⊥) where
      from_more : (q : List ℕ) → is_among q p.more ≡ true → (d : ℕ) × Reached x m s d × P d × (q ≡ key d)
      from_more q h = at_key (λ q. (d : ℕ) × Reached x m s d × P d × (q ≡ key d)) q p.more p.from h

      not_more : is_among (key e) p.more ≡ false
      not_more = false_from_ne_true (is_among (key e) p.more) (λ h. (let d = from_more (key e) h in fresh (subst P (sym (one_element e d.0 r d.1 d.3)) d.2)))

      not_now : is_among (key e) now ≡ false
      not_now = ap (is_among (key e)) p.is ∙ (among-append (key e) old p.more ∙
          (ap (λ (b : Bool). b || is_among (key e) p.more) (none (key e) (home_here e r)) ∙ not_more))

      next_distinct : AreDistinct (now ++ key e ∷ [])
      next_distinct = IsDistinct-push (eq_by_cmp_equiv nat_list_cmp_total) now (key e) p.distinct not_now

      shown_more : (qs : List (List ℕ)) → AllByRecursion (λ q. (d : ℕ) × Reached x m s d × P d × (q ≡ key d)) qs → AllByRecursion (IsShownIn a m l.locks) qs
      shown_more [] h = tt
      shown_more (q ∷ qs) h = (subst (IsShownIn a m l.locks) (sym h.0.3) (shown h.0.0 h.0.1), shown_more qs h.1)

      shown_now : AllByRecursion (IsShownIn a m l.locks) now
      shown_now = subst (AllByRecursion (IsShownIn a m l.locks)) (sym p.is) (all_append (IsShownIn a m l.locks) old p.more before (shown_more p.more p.from))

      -- so there is room for it
      pub has_room : length now < (shape_at a m).max
      has_room =
          let fits = room (now ++ key e ∷ []) next_distinct (all_append (IsShownIn a m l.locks) now (key e ∷ []) shown_now (shown e r, tt)) in
          let long : length (now ++ key e ∷ []) ≡ length now + 1 = length-append now (key e ∷ []) in
          omega arith

      pub part_more : (new : List (List ℕ)) → new ≡ now ++ key e ∷ [] → ((d : ℕ) → P d → Q d) → Q e → ((d : ℕ) → Q d → P d ⊎ (d ≡ e)) → Part a l m s old new Q
      part_more new is up own down = record {
        more = p.more ++ key e ∷ [];
        is = is ∙ (ap (λ (ks : List (List ℕ)). ks ++ key e ∷ []) p.is ∙ append_assoc old p.more (key e ∷ []));
        from = all_append (λ q. (d : ℕ) × Reached x m s d × Q d × (q ≡ key d)) p.more (key e ∷ []) (weaker p.more p.from) ((e, r, own, refl), tt);
        all = λ d rd q. ⊎_elim
            (λ (h : P d). among-append (key d) p.more (key e ∷ []) ∙ ap (λ (b : Bool). b || is_among (key d) (key e ∷ [])) (p.all d rd h))
            (λ (h : d ≡ e). among-append (key d) p.more (key e ∷ []) ∙
            (ap (λ (b : Bool). is_among (key d) p.more || (b || false))
            (ap (λ (i : ℕ). eq_by_cmp (slice_cmp nat_cmp) (key i) (key e)) h ∙ itself (key e)) ∙ or_true (is_among (key d) p.more)))
            (down d q);
        distinct = subst AreDistinct (sym is) next_distinct;
      }
        where
          or_true : (b : Bool) → (b || true) ≡ true
          or_true true = refl
          or_true false = refl

          weaker : (qs : List (List ℕ)) → AllByRecursion (λ q. (d : ℕ) × Reached x m s d × P d × (q ≡ key d)) qs → AllByRecursion
              (λ q. (d : ℕ) × Reached x m s d × Q d × (q ≡ key d)) qs
          weaker [] h = tt
          weaker (q ∷ qs) h = ((h.0.0, h.0.1, up h.0.0 h.0.2, h.0.3), weaker qs h.1)

    -- all elements
    pub adds_all : (now : List (List ℕ)) (P : ℕ → Type 0) → Part a l m s old now P → ((e : ℕ) → Reached x m s e → P e) → Adds a l m old now
    adds_all now P p every = record {
      more = p.more;
      is = p.is;
      here = λ q h. (let d = at_key (λ q. (d : ℕ) × Reached x m s d × P d × (q ≡ key d)) q p.more p.from h in subst (IsHomeIn a (lock_of l))
          (sym d.3) (home_here d.0 d.1));
      lists = lists_at;
      shown = shown_from p.more p.from;
      distinct = p.distinct;
    }
      where
        shown_from : (qs : List (List ℕ)) → AllByRecursion (λ q. (d : ℕ) × Reached x m s d × P d × (q ≡ key d)) qs → AllByRecursion (IsShownIn a m l.locks) qs
        shown_from [] h = tt
        shown_from (q ∷ qs) h = (subst (IsShownIn a m l.locks) (sym h.0.3) (shown h.0.0 h.0.1), shown_from qs h.1)

        lists_here : (f : List ℕ → Option ℕ) → IsShare a.seed (shape_at a m) (home_by a m (stamp_depth (lock_of l).stamp)) x m s f →
            (q : List ℕ) → home_by a m (stamp_depth (lock_of l).stamp) q ≡ s → (o : Option ℕ) → f q ≡ o → is_some o ≡ is_among q p.more
        lists_here f sh q home (Some e) is =
            let t = sh.all q e is home in
            let same : key e ≡ q = spells a m x e q t.1 in
            sym (ap (λ (z : List ℕ). is_among z p.more) (sym same) ∙ p.all e t.0 (every e t.0))
        lists_here f sh q home None is = sym (false_from_ne_true (is_among q p.more) (λ h.
            (let d = at_key (λ q. (d : ℕ) × Reached x m s d × P d × (q ≡ key d)) q p.more p.from h in
            let z : Some d.0 ≡ None = sym (shows_it d.0 d.1 f sh) ∙ (ap f (sym d.3) ∙ is) in cc)))

        lists_at : ListsSegment a p.more (lock_of l)
        lists_at f sh q home = lists_here f
            (subst (λ (ws : List ℕ). IsShare a.seed (shape_at a m) (home_by a m (stamp_depth (lock_of l).stamp)) (image a ws) m s f) (sym c.copied)
            (subst (λ (j : ℕ). IsShare a.seed (shape_at a m) (home_by a m (stamp_depth (lock_of l).stamp)) (image a k.first) m j f) c.segment
            (subst (λ (i : ℕ). IsShare a.seed (shape_at a i) (home_by a i (stamp_depth (lock_of l).stamp)) (image a k.first) i k.segment f) c.map sh)))
            q (ap (λ (i : ℕ). home_by a i (stamp_depth (lock_of l).stamp) q) (sym c.map) ∙ (home ∙ c.segment)) (f q) refl

-- ---- places
module _ (a : About) (l : Known) (m s : ℕ) (old : List (List ℕ)) (o : Opens a l m s old) where
  abbrev pub y : MapWords
  y = image a (lock_of l).copy

  pub sound : IsSegmentSound a.seed (shape_at a m) y m s
  sound = (share a l m s o.shows o.last).sound

  pub at_place : (p e : ℕ) → p < 64 → item (y.slot m s p) ≡ Some e → Reached y m s e
  at_place p e lt is = let h = sound.hopped p e lt is in inl (h.0, h.1, h.2)

  stands_once : (p q e : ℕ) → p < 64 → q < 64 → item (y.slot m s p) ≡ Some e → item (y.slot m s q) ≡ Some e → p ≡ q
  stands_once p q e lp lq is at =
      let h = sound.hopped p e lp is in
      let g = sound.hopped q e lq at in
      let same = sound.one_hop h.0 h.1 g.0 g.1 e h.2 g.2 in
      let b = same.0 in
      let d = same.1 in
      let hp = h.3 in
      let gq = g.3 in
      let sum : (h.0 + h.1) % 64 ≡ (g.0 + g.1) % 64 = (λ j. (b j + d j) % 64) in
      sym hp ∙ (sum ∙ gq)

  pub part_same : (now : List (List ℕ)) (P Q : ℕ → Type 0) → Part a l m s old now P → ((d : ℕ) → P d → Q d) → ((d : ℕ) → Q d → P d) → Part a l m s old now Q
  part_same now P Q p up down = record {
    more = p.more;
    is = p.is;
    from = weaker p.more p.from;
    all = λ d r q. p.all d r (down d q);
    distinct = p.distinct;
  }
    where
      weaker : (qs : List (List ℕ)) → AllByRecursion (λ q. (d : ℕ) × Reached (image a (lock_of l).copy) m s d × P d ×
          (q ≡ spelled_key a m (image a (lock_of l).copy) d)) qs
          → AllByRecursion (λ q. (d : ℕ) × Reached (image a (lock_of l).copy) m s d × Q d × (q ≡ spelled_key a m (image a (lock_of l).copy) d)) qs
      weaker [] h = tt
      weaker (q ∷ qs) h = ((h.0.0, h.0.1, up h.0.0 h.0.2, h.0.3), weaker qs h.1)

  module _ (now : List (List ℕ)) (n : ℕ) (lt : n < 64) (p : Part a l m s old now (StandsBelow a l m s n)) where
    up : (d : ℕ) → StandsBelow a l m s n d → StandsBelow a l m s (n + 1) d
    up d h = (h.0, (let z = h.1 in omega arith), h.2, h.3)

    pub place_none : item (y.slot m s n) ≡ None → Part a l m s old now (StandsBelow a l m s (n + 1))
    place_none is = part_same now (StandsBelow a l m s n) (StandsBelow a l m s (n + 1)) p up (λ d h.
        by_equal h.0 n
        (λ same. absurd (let z : Some d ≡ None = sym h.3 ∙ (ap (λ (i : ℕ). item (y.slot m s i)) same ∙ is) in cc))
        (λ ne. (h.0, (let z = h.1 in grind arith), h.2, h.3)))

    module _ (e : ℕ) (is : item (y.slot m s n) ≡ Some e) where
      pub place_reached : Reached y m s e
      place_reached = at_place n e lt is

      place_fresh : StandsBelow a l m s n e → ⊥
      place_fresh h = let same = stands_once h.0 n e h.2 lt h.3 is in let z = h.1 in omega arith

      pub place_room : length now < (shape_at a m).max
      place_room = has_room a l m s o.shows o.last old o.none o.shown o.room now (StandsBelow a l m s n) (StandsBelow a l m s (n + 1)) p e
          place_reached place_fresh

      pub place_more : (new : List (List ℕ)) → new ≡ now ++ spelled_key a m (image a (lock_of l).copy) e ∷ [] → Part a l m s old new
          (StandsBelow a l m s (n + 1))
      place_more new more = part_more a l m s o.shows o.last old o.none o.shown o.room now (StandsBelow a l m s n)
          (StandsBelow a l m s (n + 1)) p e place_reached place_fresh new more
          up (n, (omega arith), lt, is) (λ d h.
          by_equal h.0 n
          (λ same. inr (let z : Some d ≡ Some e = sym h.3 ∙ (ap (λ (i : ℕ). item (y.slot m s i)) same ∙ is) in cc))
          (λ ne. inl (h.0, (let z = h.1 in grind arith), h.2, h.3)))

  pub none_stands : Part a l m s old old (StandsBelow a l m s 0)
  none_stands = part_same old (λ e. ⊥) (StandsBelow a l m s 0) (part_none a l m s o.shows o.last old o.none o.shown o.room o.distinct)
      (λ d h. absurd h) (λ d h. (let z = h.1 in omega arith))

  -- ---- the overflow list
  abbrev pub all_listed : List ℕ
  all_listed = sound.list

  times-append : (e : ℕ) (xs ys : List ℕ) → times e (xs ++ ys) ≡ times e xs + times e ys
  times-append e [] ys = omega arith
  times-append e (z ∷ xs) ys = let r = times-append e xs ys in omega arith

  times-self : (e : ℕ) → times e (e ∷ []) ≡ 1
  times-self e = rw (eq-eqb e e refl) refl

  times-other : (d e : ℕ) → d ≢ e → times d (e ∷ []) ≡ 0
  times-other d e ne = rw (ne_eqb e d (λ (h : e ≡ d). ne (sym h))) refl

  links_once : (n : ℕ) (xs ys : List ℕ) → LinksThrough (y.link m) n xs → LinksThrough (y.link m) n ys → xs ≡ ys
  links_once n [] [] p q = refl
  links_once n [] (z ∷ ys) p q = absurd (let w : None ≡ Some z = sym p ∙ q.0 in cc)
  links_once n (z ∷ xs) [] p q = absurd (let w : None ≡ Some z = sym q ∙ p.0 in cc)
  links_once n (z ∷ xs) (v ∷ ys) p q =
      let w : Some z ≡ Some v = sym p.0 ∙ q.0 in
      let same : z ≡ v = cc in
      (λ j. same j ∷ links_once (y.link m v) xs ys (subst (λ (i : ℕ). LinksThrough (y.link m) (y.link m i) xs) same p.1) q.1 j)

  -- the list as far as it was passed, and what comes
  pub record Passed (now : List (List ℕ)) (at : Option ℕ) (passed : ℕ) : Type 0 where
    pub done : List ℕ
    pub rest : List ℕ
    pub word : ℕ
    pub is_at : item word ≡ at
    pub on : LinksThrough (y.link m) word rest
    pub split : done ++ rest ≡ all_listed
    pub part : Part a l m s old now (StandsOr a l m s done)
    pub many : passed ≤ length now

  pub passed_none : (now : List (List ℕ)) → Part a l m s old now (StandsBelow a l m s 64) → Passed now (item (y.head m s)) 0
  passed_none now p = record {
    done = [];
    rest = all_listed;
    word = y.head m s;
    is_at = refl;
    on = sound.follows;
    split = refl;
    part = part_same now (StandsBelow a l m s 64) (StandsOr a l m s []) p (λ d h. inl h)
        (λ d h. ⊎_elim (λ (k : StandsBelow a l m s 64 d). k) (λ (k : 1 ≤ times d []). absurd (omega arith)) h);
    many = omega arith;
  }

  -- at an element
  module _ (now : List (List ℕ)) (e n : ℕ) (p : Passed now (Some e) n) where
    ahead : (xs : List ℕ) → LinksThrough (y.link m) p.word xs → (es : List ℕ) × (xs ≡ e ∷ es) × LinksThrough (y.link m) (y.link m e) es
    ahead [] h = absurd (let w : Some e ≡ None = sym p.is_at ∙ h in cc)
    ahead (z ∷ es) h =
        let w : Some e ≡ Some z = sym p.is_at ∙ h.0 in
        let same : z ≡ e = cc in
        (es, ap (λ (i : ℕ). i ∷ es) same, subst (λ (i : ℕ). LinksThrough (y.link m) (y.link m i) es) same h.1)

    next : (es : List ℕ) × (p.rest ≡ e ∷ es) × LinksThrough (y.link m) (y.link m e) es
    next = ahead p.rest p.on

    whole : p.done ++ e ∷ next.0 ≡ all_listed
    whole = ap (λ (xs : List ℕ). p.done ++ xs) (sym next.1) ∙ p.split

    count : times e all_listed ≡ times e p.done + (1 + times e next.0)
    count = ap (times e) (sym whole) ∙ (times-append e p.done (e ∷ next.0) ∙ (let z = times-self e in omega arith))

    pub passed_reached : Reached y m s e
    passed_reached = inr (all_listed, sound.follows, (let z = count in omega arith))

    passed_fresh : StandsOr a l m s p.done e → ⊥
    passed_fresh = ⊎_elim
        (λ (h : StandsBelow a l m s 64 e). let q = sound.hopped h.0 e h.2 h.3 in let z = sound.apart q.0 q.1 e q.2 in let w = count in omega arith)
        (λ (h : 1 ≤ times e p.done). let z = sound.one_place e in let w = count in omega arith)

    pub passed_room : length now < (shape_at a m).max
    passed_room = has_room a l m s o.shows o.last old o.none o.shown o.room now (StandsOr a l m s p.done)
        (StandsOr a l m s (p.done ++ e ∷ [])) p.part e passed_reached passed_fresh

    pub passed_more : (new : List (List ℕ)) → new ≡ now ++ spelled_key a m (image a (lock_of l).copy) e ∷ [] → Passed new (item (y.link m e)) (n + 1)
    passed_more new more = record {
      done = p.done ++ e ∷ [];
      rest = next.0;
      word = y.link m e;
      is_at = refl;
      on = next.2;
      split = append_assoc p.done (e ∷ []) next.0 ∙ whole;
      part = part_more a l m s o.shows o.last old o.none o.shown o.room now (StandsOr a l m s p.done) (StandsOr a l m s (p.done ++ e ∷ []))
          p.part e passed_reached passed_fresh new more
          (λ d. ⊎_elim (λ (h : StandsBelow a l m s 64 d). inl h) (λ (h : 1 ≤ times d p.done). inr (let z = times-append d p.done (e ∷ []) in omega arith)))
          (inr (let z = times-append e p.done (e ∷ []) in let w = times-self e in omega arith))
          (λ d. ⊎_elim (λ (h : StandsBelow a l m s 64 d). inl (inl h))
          (λ (h : 1 ≤ times d (p.done ++ e ∷ [])). by_equal d e (λ same. inr same)
          (λ ne. inl (inr (let z = times-append d p.done (e ∷ []) in let w = times-other d e ne in omega arith)))));
      many = (let z = p.many in
          let w : length new ≡ length now + 1 = ap length more ∙ length-append now (spelled_key a m (image a (lock_of l).copy) e ∷ []) in
          omega arith);
    }

  -- at the end
  pub passed_all : (now : List (List ℕ)) (n : ℕ) → Passed now None n → Adds a l m old now
  passed_all now n p = adds_all a l m s o.shows o.last old o.none o.shown o.room now (StandsOr a l m s p.done) p.part every
    where
      over : (xs : List ℕ) → LinksThrough (y.link m) p.word xs → xs ≡ []
      over [] h = refl
      over (z ∷ xs) h = absurd (let w : None ≡ Some z = sym p.is_at ∙ h.0 in cc)

      done_all : p.done ≡ all_listed
      done_all = sym (append-nil p.done) ∙ (ap (λ (xs : List ℕ). p.done ++ xs) (sym (over p.rest p.on)) ∙ p.split)

      every : (e : ℕ) → Reached y m s e → StandsOr a l m s p.done e
      every e = ⊎_elim
          (λ (h : (b : ℕ) × (d : ℕ) × HopsTo y m s b d e). inl ((h.0 + h.1) % 64, (omega arith), (omega arith), h.2.3))
          (λ (h : IsOnList y m s e). inr (subst (λ (xs : List ℕ). 1 ≤ times e xs)
          (links_once (y.head m s) h.0 all_listed h.1 sound.follows ∙ sym done_all) h.2))

  -- as many as the map may have are all
  pub passed_most : (now : List (List ℕ)) (at : Option ℕ) (n : ℕ) → (shape_at a m).max ≤ n → Passed now at n → Adds a l m old now
  passed_most now None n most p = passed_all now n p
  passed_most now (Some e) n most p = absurd (let z = passed_room now e n p in let w = p.many in omega arith)
