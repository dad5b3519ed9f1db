-- An element that a CPU filled becomes the one that a key of its map leads to: what each part is then.
use Rattle.std.proofs.Common.{◌≡◌, ◌≢◌, ℕ, ◌+◌, ◌<◌, ◌≤◌, Bool, true, false, ◌&&◌, cond, List, ◌∷◌, Option, Some, None, is_some, ◌==◌}
use Rattle.std.proofs.Common.{length, take, refl, ap, sym, subst, ◌∙◌, arith, eq-eqb, ne_eqb, ⊎_elim, inl, inr, ◌⊎◌}
use Rattle.std.proofs.lemmas.Bool.Decides.{nat_tests}
use Rattle.std.proofs.lemmas.Cmp.{nat_list_cmp_total}
use Rattle.std.specs.FinMap.{get, insert, len, len-insert, get-insert}
use Rattle.std.specs.Cmp.{tied_itself}
use Rattle.std.specs.Ordering.{is_eq}
use Rattle.std.proofs.lemmas.Bool.{cases_eq}
use Rattle.bpf_shared.specs.Shape.{element_span}
use Rattle.bpf_shared.specs.Store.{KeyMap, Value, put}
use Rattle.bpf_shared.proofs.Puts.{put-same, put-other, insert_cases}
use Rattle.hop_layout.specs.declared.about.About.{About}
use Rattle.hop_words.specs.declared.known.Fresh.{Fresh}
use Rattle.hop_words.specs.declared.known.Limbo.{Limbo}
use Rattle.hop_layout.specs.Layout.{words_for}
use Rattle.hop_layout.specs.Words.{bytes_of_words}
use Rattle.hop_words.specs.Content.{one_if}
use Rattle.hop_words.specs.Ghost.{Holder, Free, Filling, Leaving, Within, is_free, is_filling, is_leaving, Carries, shape_at, HasElement, limbo_at, Each}
use Rattle.hop_words.specs.Rule.{put_key, numbered, Keyed, Batched, Owned, times_fresh, times_limbo, Linked, StartsWith, Filled, Valued}
use Rattle.hop_words.proofs.Small.{put_key-same, put_key-other, equal_keys, here_or, put2-same, put2-other}

pub leads_new : (k : KeyMap) (key : List ℕ) (n : ℕ) → get (insert k key n) key ≡ Some n
leads_new k key n = get-insert nat_list_cmp_total k key n key ∙ ap (λ (b : Bool). cond b (Some n) (get k key)) (ap is_eq (tied_itself nat_list_cmp_total key))

-- ---- holders
pub within_once : {p q : List ℕ} → Within p ≡ Within q → p ≡ q
within_once h = cc

-- what a test says of each holder, where it says the same of the new one as of the old
pub moved : {A : Type 0} (T : Holder → A) (holder : ℕ → ℕ → Holder) (m e : ℕ) (x y : Holder) → holder m e ≡ x → T y ≡ T x → (n f : ℕ) → T
    (put holder m (put (holder m) e y) n f) ≡ T (holder n f)
moved T holder m e x y is same n f = ⊎_elim
    (λ (t : (n ≡ m) × (f ≡ e)). ap T (put2-same holder m e n f y t.0 t.1) ∙ (same ∙ ap T (sym is ∙ (λ i. holder (sym t.0 i) (sym t.1 i)))))
    (λ (ne : n ≡ m → f ≢ e). ap T (put2-other holder m e n f y ne))
    (here_or m n e f)

filling_or : (c : ℕ) (x : Holder) → one_if (is_filling c x) ≡ 1 → x ≡ Filling c
filling_or c Free e = absurd (omega arith)
filling_or c (Filling d) e = let s : d ≡ c = grind (arith, nat_tests) in ap Filling s
filling_or c (Leaving d) e = absurd (omega arith)
filling_or c (Within d) e = absurd (omega arith)

pub filling_most : (c : ℕ) (x : Holder) → 1 ≤ one_if (is_filling c x) → x ≡ Filling c
filling_most c Free e = absurd (omega arith)
filling_most c (Filling d) e = let s : d ≡ c = grind (arith, nat_tests) in ap Filling s
filling_most c (Leaving d) e = absurd (omega arith)
filling_most c (Within d) e = absurd (omega arith)

pub leaving_or : (c : ℕ) (x : Holder) → 1 ≤ one_if (is_leaving c x) → x ≡ Leaving c
leaving_or c Free e = absurd (omega arith)
leaving_or c (Filling d) e = absurd (omega arith)
leaving_or c (Leaving d) e = let s : d ≡ c = grind (arith, nat_tests) in ap Leaving s
leaving_or c (Within d) e = absurd (omega arith)

-- an element in hand is one that the CPU fills
pub in_hand : (a : About) (free : ℕ → ℕ → ℕ) (fresh : ℕ → List Fresh) (limbo : ℕ → List Limbo) (holder : ℕ → ℕ → Holder) (c m : ℕ)
    (f : Fresh) (rest : List Fresh) → Owned a free fresh limbo holder → c < a.shape.cpus → HasElement a m f.element
    → f.map ≡ m → fresh c ≡ f ∷ rest → holder m f.element ≡ Filling c
in_hand a free fresh limbo holder c m f rest p inside l map is = filling_or c (holder m f.element) (go (holder m f.element) refl)
  where
    one : times_fresh m f.element (f ∷ rest) ≡ 1 + times_fresh m f.element rest
    one = rw (map, eq-eqb m m refl, eq-eqb f.element f.element refl) refl

    has : one_if (is_filling c (holder m f.element)) ≡ 1 + times_fresh m f.element rest
    has = sym (p.fresh_is c m f.element inside l) ∙ (ap (times_fresh m f.element) is ∙ one)

    go : (x : Holder) → holder m f.element ≡ x → one_if (is_filling c (holder m f.element)) ≡ 1
    go x e = at_most (is_filling c (holder m f.element)) has
      where
        at_most : (b : Bool) → one_if (b) ≡ 1 + times_fresh m f.element rest → one_if (b) ≡ 1
        at_most true h = refl
        at_most false h = absurd (omega arith)

-- an element in limbo has left its map
pub in_limbo : (a : About) (free : ℕ → ℕ → ℕ) (fresh : ℕ → List Fresh) (limbo : ℕ → List Limbo) (holder : ℕ → ℕ → Holder) (c m e : ℕ) →
    Owned a free fresh limbo holder → c < a.shape.cpus → HasElement a m e
    → 1 ≤ times_limbo e (limbo_at (limbo c) m) → holder m e ≡ Leaving c
in_limbo a free fresh limbo holder c m e p inside l has = leaving_or c (holder m e) (let q = p.limbo_is c m e inside l in omega arith)

module _ (a : About) (c m e s : ℕ) (key : List ℕ) (holder : ℕ → ℕ → Holder) (was : holder m e ≡ Filling c) where
  abbrev held' : ℕ → ℕ → Holder
  held' = put holder m (put (holder m) e (Within key))

  -- ---- owners
  pub owned_comes : (free : ℕ → ℕ → ℕ) (fresh : ℕ → List Fresh) (limbo : ℕ → List Limbo) (f : Fresh) (rest : List Fresh) → Owned a free
      fresh limbo holder → f.map ≡ m → f.element ≡ e → fresh c ≡ f ∷ rest → c < a.shape.cpus → Owned a free (put fresh c rest) limbo held'
  owned_comes free fresh limbo f rest p fm fe is inside = record {
    bits = λ n d l. p.bits n d l ∙ sym (moved (λ x. one_if (is_free x)) holder m e (Filling c) (Within key) was refl n d);
    limbo_is = λ b n d inb l. p.limbo_is b n d inb l ∙ sym (moved (λ x. one_if (is_leaving b x)) holder m e (Filling c) (Within key) was refl n d);
    fresh_is = λ b n d inb l. ⊎_elim
        (λ (t : b ≡ c). subst (λ x. times_fresh n d (put fresh c rest x) ≡ one_if (is_filling x (held' n d))) (sym t)
        (ap (times_fresh n d) (put-same fresh c c rest refl) ∙ own n d l))
        (λ (ne : b ≢ c). ap (times_fresh n d) (put-other fresh c b rest ne) ∙
        (p.fresh_is b n d inb l ∙ sym (moved (λ x. one_if (is_filling b x)) holder m e (Filling c) (Within key) was
        (sym (ap (one_if) (ne_eqb c b (λ (q : c ≡ b). ne (sym q))))) n d)))
        (cases_eq b c);
  }
    where
      own : (n d : ℕ) → HasElement a n d → times_fresh n d rest ≡ one_if (is_filling c (held' n d))
      own n d l =
          let q : times_fresh n d (f ∷ rest) ≡ one_if (is_filling c (holder n d)) = ap (times_fresh n d) (sym is) ∙ p.fresh_is c n d inside l in
          ⊎_elim
          (λ (t : (n ≡ m) × (d ≡ e)).
          let one : (f.map == n) && (f.element == d) ≡ true = rw (fm, fe, t.0, t.1, eq-eqb m m refl, eq-eqb e e refl) refl in
          let hold : one_if (is_filling c (holder n d)) ≡ 1 = ap (λ x. one_if (is_filling c x)) ((λ i. holder (t.0 i) (t.1 i)) ∙ was) ∙ ap
          (one_if) (eq-eqb c c refl) in
          let sum : 1 + times_fresh n d rest ≡ 1 = sym (ap (λ (x : Bool). one_if (x) + times_fresh n d rest) one) ∙ (q ∙ hold) in
          let new : one_if (is_filling c (held' n d)) ≡ 0 = ap (λ x. one_if (is_filling c x)) (put2-same holder m e n d (Within key) t.0 t.1) in
          omega arith)
          (λ (ne : n ≡ m → d ≢ e).
          let one : (f.map == n) && (f.element == d) ≡ false = differ n d ne in
          let sum : 0 + times_fresh n d rest ≡ one_if (is_filling c (holder n d)) = sym (ap (λ (x : Bool). one_if (x) + times_fresh n d rest) one) ∙ q in
          let new : one_if (is_filling c (held' n d)) ≡ one_if (is_filling c (holder n d)) = ap (λ x. one_if (is_filling c x))
          (put2-other holder m e n d (Within key) ne) in
          omega arith)
          (here_or m n e d)
        where
          differ : (n d : ℕ) → (n ≡ m → d ≢ e) → (f.map == n) && (f.element == d) ≡ false
          differ n d ne = ⊎_elim
              (λ (t : n ≡ m). ap (λ (x : Bool). (f.map == n) && x) (ne_eqb f.element d (λ (q : f.element ≡ d). ne t (sym q ∙ fe))) ∙ and_false (f.map == n))
              (λ (d' : n ≢ m). ap (λ (x : Bool). x && (f.element == d)) (ne_eqb f.map n (λ (q : f.map ≡ n). d' (sym q ∙ fm))))
              (cases_eq n m)
            where
              and_false : (x : Bool) → x && false ≡ false
              and_false true = refl
              and_false false = refl

  -- ---- linked elements
  module _ (linked : ℕ → List ℕ → Option ℕ) where
    abbrev links' : ℕ → List ℕ → Option ℕ
    links' = put linked m (put_key (linked m) key (Some e))

    pub now_new : (n : ℕ) (q : List ℕ) → n ≡ m → q ≡ key → links' n q ≡ Some e
    now_new n q t u = ap (λ (f : List ℕ → Option ℕ). f q) (put-same linked m n (put_key (linked m) key (Some e)) t) ∙ put_key-same (linked m) key q (Some e) u

    pub now_old : (n : ℕ) (q : List ℕ) → (n ≡ m → q ≢ key) → links' n q ≡ linked n q
    now_old n q ne = ⊎_elim
        (λ (t : n ≡ m). ap (λ (f : List ℕ → Option ℕ). f q) (put-same linked m n (put_key (linked m) key (Some e)) t) ∙
        (put_key-other (linked m) key q (Some e) (ne t) ∙ ap (λ (k : ℕ). linked k q) (sym t)))
        (λ (t : n ≢ m). ap (λ (f : List ℕ → Option ℕ). f q) (put-other linked m n (put_key (linked m) key (Some e)) t))
        (cases_eq n m)

    here_key : (n : ℕ) (q : List ℕ) → ((n ≡ m) × (q ≡ key)) ⊎ (n ≡ m → q ≢ key)
    here_key n q = ⊎_elim
        (λ (t : n ≡ m). ⊎_elim (λ (u : q ≡ key). inl (t, u)) (λ (u : q ≢ key). inr (λ _. u)) (equal_keys q key))
        (λ (t : n ≢ m). inr (λ u. absurd (t u)))
        (cases_eq n m)

    -- an element that a key leads to isn't the new one
    module _ (p : Linked a linked holder) where
      pub not_new : (n d : ℕ) (q : List ℕ) → linked n q ≡ Some d → n ≡ m → d ≢ e
      not_new n d q is t u = let k : Within q ≡ Filling c = sym (p.within n q d is).1 ∙ ((λ i. holder (t i) (u i)) ∙ was) in cc

      pub linked_comes : linked m key ≡ None → HasElement a m e → Linked a links' held'
      linked_comes none l = record {
        within = λ n q d is. ⊎_elim
            (λ (t : (n ≡ m) × (q ≡ key)). let same : e ≡ d = (let k : Some e ≡ Some d = sym (now_new n q t.0 t.1) ∙ is in cc) in (
              subst (λ (x : ℕ). HasElement a n x) same (subst (λ (x : ℕ). HasElement a x e) (sym t.0) l),
              put2-same holder m e n d (Within key) t.0 (sym same) ∙ ap Within (sym t.1),
            ))
            (λ (ne : n ≡ m → q ≢ key). let w = p.within n q d (sym (now_old n q ne) ∙ is) in
            (w.0, put2-other holder m e n d (Within key) (not_new n d q (sym (now_old n q ne) ∙ is)) ∙ w.1))
            (here_key n q);
        leads = λ n d q el is. ⊎_elim
            (λ (h : (n ≡ m) × (d ≡ e)). now_new n q h.0 (within_once (sym is ∙ put2-same holder m e n d (Within key) h.0 h.1)) ∙ ap Some (sym h.1))
            (λ (ne : n ≡ m → d ≢ e). let w = p.leads n d q el (sym (put2-other holder m e n d (Within key) ne) ∙ is) in
            now_old n q (λ h u. let k : None ≡ Some d = sym none ∙ ((λ i. linked (sym h i) (sym u i)) ∙ w) in cc) ∙ w)
            (here_or m n e d);
      }

      -- ---- keys and their values
      pub numbered_same : (f g : ℕ → ℕ) (o : Option ℕ) → ((d : ℕ) → o ≡ Some d → g d ≡ f d) → numbered g o ≡ numbered f o
      numbered_same f g None same = refl
      numbered_same f g (Some d) same = ap Some (same d refl)

      pub keyed_comes : (counts : ℕ → ℕ) (maps : ℕ → KeyMap) (number : ℕ → ℕ → ℕ) (v : ℕ) → Keyed a counts maps linked number → linked m key ≡ None
          → Keyed a (put counts m (counts m + 1)) (put maps m (insert (maps m) key v)) links' (put number m (put (number m) e v))
      keyed_comes counts maps number v k none = record {
        counted = λ n l. ⊎_elim
            (λ (t : n ≡ m). put-same counts m n (counts m + 1) t ∙ (ap (λ (x : ℕ). x + 1) (k.counted m (subst (λ (x : ℕ). x < length a.shape.maps) t l))
            ∙ (sym longer ∙ ap (λ (x : KeyMap). len x) (sym (put-same maps m n (insert (maps m) key v) t)))))
            (λ (ne : n ≢ m). put-other counts m n (counts m + 1) ne ∙
            (k.counted n l ∙ ap (λ (x : KeyMap). len x) (sym (put-other maps m n (insert (maps m) key v) ne))))
            (cases_eq n m);
        leads = λ n q. ⊎_elim
            (λ (t : (n ≡ m) × (q ≡ key)). ap (λ (x : KeyMap). get x q) (put-same maps m n (insert (maps m) key v) t.0) ∙ (new_at q t.1
            ∙ (ap Some (sym (put2-same number m e n e v t.0 refl)) ∙ ap (numbered (number' n)) (sym (now_new n q t.0 t.1)))))
            (λ (ne : n ≡ m → q ≢ key). old_at n q ne ∙ (k.leads n q ∙
            (sym (numbered_same (number n) (number' n) (linked n q) (λ d is. put2-other number m e n d v (not_new n d q is))) ∙ ap
            (numbered (number' n)) (sym (now_old n q ne)))))
            (here_key n q);
      }
        where
          number' : ℕ → ℕ → ℕ
          number' = put number m (put (number m) e v)

          get_none : get (maps m) key ≡ None
          get_none = k.leads m key ∙ ap (numbered (number m)) none

          longer : len (insert (maps m) key v) ≡ len (maps m) + 1
          longer = len-insert nat_list_cmp_total (maps m) key v ∙ go (get (maps m) key) get_none
            where
              go : (o : Option ℕ) → o ≡ None → cond (is_some o) (len (maps m)) (len (maps m) + 1) ≡ len (maps m) + 1
              go None z = refl
              go (Some x) z = cc

          new_at : (q : List ℕ) → q ≡ key → get (insert (maps m) key v) q ≡ Some v
          new_at q u = ap (λ (x : List ℕ). get (insert (maps m) key v) x) u ∙ leads_new (maps m) key v

          old_at : (n : ℕ) (q : List ℕ) → (n ≡ m → q ≢ key) → get (put maps m (insert (maps m) key v) n) q ≡ get (maps n) q
          old_at n q ne = ⊎_elim
              (λ (t : n ≡ m). ap (λ (x : KeyMap). get x q) (put-same maps m n (insert (maps m) key v) t) ∙ (⊎_elim
              (λ (h : (q ≡ key) × (get (insert (maps m) key v) q ≡ Some v)). absurd (ne t h.0))
              (λ (h : get (insert (maps m) key v) q ≡ get (maps m) q). h)
              (insert_cases (maps m) key v q) ∙ ap (λ (x : ℕ). get (maps x) q) (sym t)))
              (λ (d : n ≢ m). ap (λ (x : KeyMap). get x q) (put-other maps m n (insert (maps m) key v) d))
              (cases_eq n m)

  -- ---- batches
  pub batched_comes : (free link : ℕ → ℕ → ℕ) (counts : ℕ → ℕ) (fresh : ℕ → List Fresh) (limbo : ℕ → List Limbo) (held : ℕ → ℕ → Bool)
      (number : ℕ → ℕ → ℕ) (v : ℕ) → Owned a free fresh limbo holder → Batched a link counts limbo held number
      → Batched a link counts limbo held (put number m (put (number m) e v))
  batched_comes free link counts fresh limbo held number v o p = record {
    young = p.young;
    old = p.old;
    noted = λ b n d x inside l has few holds. p.noted b n d x inside l has few (subst (λ (y : ℕ). held x y ≡ true) (put2-other number m e n d v
        (λ t u. let k : Leaving b ≡ Filling c = sym (in_limbo a free fresh limbo holder b n d o inside l (omega arith)) ∙ ((λ i. holder (t i) (u i)) ∙ was) in
        cc))
        holds);
  }

  -- ---- filled words
  pub filled_rest : (kw vw : ℕ → ℕ → ℕ → ℕ) (fresh : ℕ → List Fresh) (f : Fresh) (rest : List Fresh) → Filled a kw vw fresh → fresh c ≡ f ∷
      rest → c < a.shape.cpus → Filled a kw vw (put fresh c rest)
  filled_rest kw vw fresh f rest p is inc b inb = ⊎_elim
      (λ (t : b ≡ c). subst (Each Has) (sym (put-same fresh c b rest t)) (subst (Each Has) is (p c inc)).1)
      (λ (ne : b ≢ c). subst (Each Has) (sym (put-other fresh c b rest ne)) (p b inb))
      (cases_eq b c)
    where
      Has : Fresh → Type 0
      Has g = StartsWith g.key (kw g.map g.element) × StartsWith g.value (vw g.map g.element)

  -- ---- values
  pub valued_comes : (words : ℕ → ℕ → ℕ → ℕ) (made : ℕ) (value : ℕ → Value) (held : ℕ → ℕ → Bool) (number : ℕ → ℕ → ℕ) (x : Value) → Valued
      a words made value held holder number
      → x ≡ record { bytes = take (shape_at a m).value (bytes_of_words (words_for (shape_at a m).value) (words m e)); span = element_span m (shape_at a m) e }
      → Valued a words (made + 1) (put value made x) held held' (put number m (put (number m) e made))
  valued_comes words made value held number x p is = record {
    lies = λ n d l has. ⊎_elim
        (λ (t : (n ≡ m) × (d ≡ e)). ap (put value made x) (put2-same number m e n d made t.0 t.1) ∙
        (put-same value made made x refl ∙ (is ∙ (λ i. lying (sym t.0 i) (sym t.1 i)))))
        (λ (ne : n ≡ m → d ≢ e). let has' = subst Carries (put2-other holder m e n d (Within key) ne) has in
        ap (put value made x) (put2-other number m e n d made ne) ∙
        (put-other value made (number n d) x (λ (q : number n d ≡ made). let o = p.older n d l has' in omega arith) ∙ p.lies n d l has'))
        (here_or m n e d);
    older = λ n d l has. ⊎_elim
        (λ (t : (n ≡ m) × (d ≡ e)). let q = put2-same number m e n d made t.0 t.1 in omega arith)
        (λ (ne : n ≡ m → d ≢ e).
        let q = put2-other number m e n d made ne in let o = p.older n d l (subst Carries (put2-other holder m e n d (Within key) ne) has) in omega arith)
        (here_or m n e d);
    held_in = λ b v h.
        let k = p.held_in b v h in
        let ne : k.0 ≡ m → k.1 ≢ e = λ t u. subst Carries ((λ i. holder (t i) (u i)) ∙ was) k.3 in
        (k.0, k.1, k.2, subst Carries (sym (put2-other holder m e k.0 k.1 (Within key) ne)) k.3, put2-other number m e k.0 k.1 made ne ∙ k.4);
  }
    where
      lying : ℕ → ℕ → Value
      lying n d = record {
        bytes = take (shape_at a n).value (bytes_of_words (words_for (shape_at a n).value) (words n d));
        span =
            element_span n (shape_at a n) d;
      }
