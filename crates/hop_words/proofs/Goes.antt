-- An element that a key led to leaves its map: the CPU that took it out has it, used.
use Rattle.std.proofs.Common.{◌≡◌, ◌≢◌, ℕ, ◌-◌, ◌<◌, ◌≤◌, Bool, true, cond, List, ◌∷◌, Option, Some, None, is_some, ◌==◌, length, set}
use Rattle.std.proofs.Common.{slice_index, get_or-set_same, get_or-set_other, refl, ap, sym, subst, ◌∙◌, arith, eq-eqb, ne_eqb, ⊎_elim, inl}
use Rattle.std.proofs.Common.{inr, ◌⊎◌}
use Rattle.std.proofs.lemmas.Cmp.{nat_list_cmp_total}
use Rattle.std.specs.FinMap.{get, remove, len, len-remove, get-remove}
use Rattle.std.specs.Cmp.{tied_itself}
use Rattle.std.specs.Ordering.{is_eq}
use Rattle.std.proofs.lemmas.Bool.{cases_eq}
use Rattle.bpf_shared.specs.Store.{KeyMap, Value, put}
use Rattle.bpf_shared.proofs.Puts.{put-same, put-other, remove_cases}
use Rattle.hop_layout.specs.declared.about.About.{About}
use Rattle.hop_words.specs.declared.known.Fresh.{Fresh}
use Rattle.hop_words.specs.declared.known.Limbo.{Limbo}
use Rattle.hop_words.specs.Content.{one_if, times}
use Rattle.hop_words.specs.Ghost.{Holder, Leaving, Within, is_free, is_filling, is_leaving, Carries, HasElement, limbo_at, no_limbo}
use Rattle.hop_words.specs.Rule.{put_key, numbered, Keyed, Batched, Chained, Owned, times_limbo, Linked, Valued}
use Rattle.hop_words.proofs.Small.{put_key-same, put_key-other, equal_keys, here_or, put2-same, put2-other}
use Rattle.hop_words.proofs.Comes.{moved, within_once}

-- ---- what a CPU has of one map
pub limbo_same : (xs : List Limbo) (m : ℕ) (y : Limbo) → m < length xs → limbo_at (set xs m y) m ≡ y
limbo_same xs m y l = get_or-set_same xs m y no_limbo l

pub limbo_other : (xs : List Limbo) (m n : ℕ) (y : Limbo) → n ≢ m → limbo_at (set xs m y) n ≡ limbo_at xs n
limbo_other xs m n y ne = get_or-set_other xs m n y no_limbo ne

-- a fact of what each CPU has of each map, where one changed
pub limbo_put : (P : ℕ → ℕ → Limbo → Type 0) (limbo : ℕ → List Limbo) (c m : ℕ) (y : Limbo) → m < length (limbo c) → P c m y →
    ((b n : ℕ) → (b ≡ c → n ≢ m) → P b n (limbo_at (limbo b) n)) → (b n : ℕ) → P b n (limbo_at (put limbo c (set (limbo c) m y) b) n)
limbo_put P limbo c m y l own others b n = ⊎_elim
    (λ (t : b ≡ c). subst (λ (xs : List Limbo). P b n (limbo_at xs n)) (sym (put-same limbo c b (set (limbo c) m y) t)) (⊎_elim
    (λ (u : n ≡ m). subst (P b n) (ap (λ (i : ℕ). limbo_at (set (limbo c) m y) i) (sym u))
    (subst (P b n) (sym (limbo_same (limbo c) m y l)) (subst (λ (i : ℕ). P i n y) (sym t) (subst (λ (i : ℕ). P c i y) (sym u) own))))
    (λ (u : n ≢ m). subst (P b n) (sym (limbo_other (limbo c) m n y u)) (subst (λ (i : ℕ). P b n (limbo_at (limbo i) n)) t (others b n (λ _. u))))
    (cases_eq n m)))
    (λ (ne : b ≢ c). subst (λ (xs : List Limbo). P b n (limbo_at xs n)) (sym (put-other limbo c b (set (limbo c) m y) ne)) (others b n (λ e. absurd (ne e))))
    (cases_eq b c)

abbrev pub with_used : Limbo → ℕ → Limbo
with_used x e = record x { used = e ∷ x.used }

module _ (a : About) (c m e s : ℕ) (key : List ℕ) (holder : ℕ → ℕ → Holder) (was : holder m e ≡ Within key) where
  abbrev gone' : ℕ → ℕ → Holder
  gone' = put holder m (put (holder m) e (Leaving c))

  pub owned_goes : (free : ℕ → ℕ → ℕ) (fresh : ℕ → List Fresh) (limbo : ℕ → List Limbo) → Owned a free fresh limbo holder → c < a.shape.cpus
      → HasElement a m e → m < length (limbo c)
      → Owned a free fresh (put limbo c (set (limbo c) m (with_used (limbo_at (limbo c) m) e))) gone'
  owned_goes free fresh limbo p inside at_e room = record {
    bits = λ n d l. p.bits n d l ∙ sym (moved (λ x. one_if (is_free x)) holder m e (Within key) (Leaving c) was refl n d);
    fresh_is = λ b n d inb l. p.fresh_is b n d inb l ∙ sym (moved (λ x. one_if (is_filling b x)) holder m e (Within key) (Leaving c) was refl n d);
    limbo_is = λ b n d inb l. limbo_put (λ b n x. b < a.shape.cpus → HasElement a n d → times_limbo d x ≡ one_if (is_leaving b (gone' n d)))
        limbo c m (with_used (limbo_at (limbo c) m) e) room
        (λ _ at_d. ⊎_elim
        (λ (t : d ≡ e).
        let q = p.limbo_is c m d inside at_d in
        let z : one_if (is_leaving c (holder m d)) ≡ 0 = ap (λ x. one_if (is_leaving c x)) (ap (holder m) t ∙ was) in
        let y : one_if (is_leaving c (gone' m d)) ≡ 1 = ap (λ x. one_if (is_leaving c x)) (put2-same holder m e m d (Leaving c) refl t) ∙ ap
        one_if (eq-eqb c c refl) in
        let o : one_if (e == d) ≡ 1 = ap one_if (eq-eqb e d (sym t)) in
        omega arith)
        (λ (ne : d ≢ e).
        let q = p.limbo_is c m d inside at_d in
        let y : one_if (is_leaving c (gone' m d)) ≡ one_if (is_leaving c (holder m d)) = ap (λ x. one_if (is_leaving c x))
        (put2-other holder m e m d (Leaving c) (λ _. ne)) in
        let o : one_if (e == d) ≡ 0 = ap one_if (ne_eqb e d (λ (i : e ≡ d). ne (sym i))) in
        omega arith)
        (cases_eq d e))
        (λ b n ne inb l. p.limbo_is b n d inb l ∙ ⊎_elim
        (λ (t : b ≡ c). ap (λ x. one_if (is_leaving b x)) (sym (put2-other holder m e n d (Leaving c) (λ u. absurd (ne t u)))))
        (λ (nb : b ≢ c). sym (moved (λ x. one_if (is_leaving b x)) holder m e (Within key) (Leaving c) was
        (ap one_if (ne_eqb c b (λ (i : c ≡ b). nb (sym i)))) n d))
        (cases_eq b c))
        b n inb l;
  }

  -- ---- linked elements
  module _ (linked : ℕ → List ℕ → Option ℕ) where
    abbrev cut' : ℕ → List ℕ → Option ℕ
    cut' = put linked m (put_key (linked m) key None)

    cut_new : (n : ℕ) (q : List ℕ) → n ≡ m → q ≡ key → cut' n q ≡ None
    cut_new n q t u = ap (λ (f : List ℕ → Option ℕ). f q) (put-same linked m n (put_key (linked m) key None) t) ∙ put_key-same (linked m) key q None u

    pub cut_old : (n : ℕ) (q : List ℕ) → (n ≡ m → q ≢ key) → cut' n q ≡ linked n q
    cut_old n q ne = ⊎_elim
        (λ (t : n ≡ m). ap (λ (f : List ℕ → Option ℕ). f q) (put-same linked m n (put_key (linked m) key None) t) ∙
        (put_key-other (linked m) key q None (ne t) ∙ ap (λ (k : ℕ). linked k q) (sym t)))
        (λ (t : n ≢ m). ap (λ (f : List ℕ → Option ℕ). f q) (put-other linked m n (put_key (linked m) key None) t))
        (cases_eq n m)

    here_key : (n : ℕ) (q : List ℕ) → ((n ≡ m) × (q ≡ key)) ⊎ (n ≡ m → q ≢ key)
    here_key n q = ⊎_elim
        (λ (t : n ≡ m). ⊎_elim (λ (u : q ≡ key). inl (t, u)) (λ (u : q ≢ key). inr (λ _. u)) (equal_keys q key))
        (λ (t : n ≢ m). inr (λ u. absurd (t u)))
        (cases_eq n m)

    still : (n d : ℕ) (q : List ℕ) → cut' n q ≡ Some d → (n ≡ m → q ≢ key) × (linked n q ≡ Some d)
    still n d q is = ⊎_elim
        (λ (t : (n ≡ m) × (q ≡ key)). let z : None ≡ Some d = sym (cut_new n q t.0 t.1) ∙ is in cc)
        (λ (ne : n ≡ m → q ≢ key). (ne, sym (cut_old n q ne) ∙ is))
        (here_key n q)

    pub linked_goes : Linked a linked holder → linked m key ≡ Some e → Linked a cut' gone'
    linked_goes p there = record {
      within = λ n q d is. let t = still n d q is in let w = p.within n q d t.1 in
          (w.0, put2-other holder m e n d (Leaving c) (λ i u. t.0 i (within_once (sym w.1 ∙ ((λ j. holder (i j) (u j)) ∙ was)))) ∙ w.1);
      leads = λ n d q at_d is. ⊎_elim
          (λ (h : (n ≡ m) × (d ≡ e)). let z : Leaving c ≡ Within q = sym (put2-same holder m e n d (Leaving c) h.0 h.1) ∙ is in cc)
          (λ (ne : n ≡ m → d ≢ e). let w = p.leads n d q at_d (sym (put2-other holder m e n d (Leaving c) ne) ∙ is) in
          cut_old n q (λ i u. ne i (let z : Some d ≡ Some e = sym w ∙ ((λ j. linked (i j) (u j)) ∙ there) in cc)) ∙ w)
          (here_or m n e d);
    }

    pub keyed_goes : (counts : ℕ → ℕ) (maps : ℕ → KeyMap) (number : ℕ → ℕ → ℕ) → Keyed a counts maps linked number → linked m key ≡ Some e
        → Keyed a (put counts m (counts m - 1)) (put maps m (remove (maps m) key)) cut' number
    keyed_goes counts maps number k there = record {
      counted = λ n l. ⊎_elim
          (λ (t : n ≡ m). put-same counts m n (counts m - 1) t ∙ (ap (λ (x : ℕ). x - 1) (k.counted m (subst (λ (x : ℕ). x < length a.shape.maps) t l))
          ∙ (sym shorter ∙ ap (λ (x : KeyMap). len x) (sym (put-same maps m n (remove (maps m) key) t)))))
          (λ (ne : n ≢ m). put-other counts m n (counts m - 1) ne ∙
          (k.counted n l ∙ ap (λ (x : KeyMap). len x) (sym (put-other maps m n (remove (maps m) key) ne))))
          (cases_eq n m);
      leads = λ n q. ⊎_elim
          (λ (t : (n ≡ m) × (q ≡ key)). ap (λ (x : KeyMap). get x q) (put-same maps m n (remove (maps m) key) t.0) ∙
          (removed_at q t.1 ∙ ap (numbered (number n)) (sym (cut_new n q t.0 t.1))))
          (λ (ne : n ≡ m → q ≢ key). old_at n q ne ∙ (k.leads n q ∙ ap (numbered (number n)) (sym (cut_old n q ne))))
          (here_key n q);
    }
      where
        get_some : get (maps m) key ≡ Some (number m e)
        get_some = k.leads m key ∙ ap (numbered (number m)) there

        shorter : len (remove (maps m) key) ≡ len (maps m) - 1
        shorter = len-remove nat_list_cmp_total (maps m) key ∙ go (get (maps m) key) get_some
          where
            go : (o : Option ℕ) → o ≡ Some (number m e) → cond (is_some o) (len (maps m) - 1) (len (maps m)) ≡ len (maps m) - 1
            go None z = cc
            go (Some x) z = refl

        removed_at : (q : List ℕ) → q ≡ key → get (remove (maps m) key) q ≡ None
        removed_at q u = ap (λ (x : List ℕ). get (remove (maps m) key) x) u ∙
            (get-remove nat_list_cmp_total (maps m) key key ∙ ap (λ (b : Bool). cond b None (get (maps m) key))
            (ap is_eq (tied_itself nat_list_cmp_total key)))

        old_at : (n : ℕ) (q : List ℕ) → (n ≡ m → q ≢ key) → get (put maps m (remove (maps m) key) n) q ≡ get (maps n) q
        old_at n q ne = ⊎_elim
            (λ (t : n ≡ m). ap (λ (x : KeyMap). get x q) (put-same maps m n (remove (maps m) key) t) ∙ (⊎_elim
            (λ (h : (q ≡ key) × (get (remove (maps m) key) q ≡ None)). absurd (ne t h.0))
            (λ (h : get (remove (maps m) key) q ≡ get (maps m) q). h)
            (remove_cases (maps m) key q) ∙ ap (λ (x : ℕ). get (maps x) q) (sym t)))
            (λ (d : n ≢ m). ap (λ (x : KeyMap). get x q) (put-other maps m n (remove (maps m) key) d))
            (cases_eq n m)

  -- ---- batches
  pub batched_goes : (link : ℕ → ℕ → ℕ) (counts : ℕ → ℕ) (limbo : ℕ → List Limbo) (held : ℕ → ℕ → Bool) (number : ℕ → ℕ → ℕ) → Batched a
      link counts limbo held number → m < length (limbo c) → c < a.shape.cpus
      → Batched a link counts (put limbo c (set (limbo c) m (with_used (limbo_at (limbo c) m) e))) held number
  batched_goes link counts limbo held number p room inside = record {
    young = limbo_put (λ b n x. b < a.shape.cpus → Chained (link n) x.young) limbo c m (with_used (limbo_at (limbo c) m) e) room
        (λ i. p.young c m i) (λ b n _ i. p.young b n i);
    old = limbo_put (λ b n x. b < a.shape.cpus → Chained (link n) x.old) limbo c m (with_used (limbo_at (limbo c) m) e) room
        (λ i. p.old c m i) (λ b n _ i. p.old b n i);
    noted = λ b n d x. limbo_put (λ b n y. b < a.shape.cpus → HasElement a n d → 1 ≤ times d y.old → x < length y.noted → held x
        (number n d) ≡ true → slice_index y.noted x ≡ counts x) limbo c m (with_used (limbo_at (limbo c) m) e) room
        (p.noted c m d x) (λ b n _. p.noted b n d x) b n;
  }

  -- ---- values
  pub valued_goes : (words : ℕ → ℕ → ℕ → ℕ) (made : ℕ) (value : ℕ → Value) (held : ℕ → ℕ → Bool) (number : ℕ → ℕ → ℕ) → Valued a words made
      value held holder number → Valued a words made value held gone' number
  valued_goes words made value held number p = record {
    lies = λ n d l has. p.lies n d l (back n d has);
    older = λ n d l has. p.older n d l (back n d has);
    held_in = λ b v h. let k = p.held_in b v h in (k.0, k.1, k.2, on k.0 k.1 k.3, k.4);
  }
    where
      back : (n d : ℕ) → Carries (gone' n d) → Carries (holder n d)
      back n d has = ⊎_elim
          (λ (h : (n ≡ m) × (d ≡ e)). subst Carries (sym ((λ j. holder (h.0 j) (h.1 j)) ∙ was)) tt)
          (λ (ne : n ≡ m → d ≢ e). subst Carries (put2-other holder m e n d (Leaving c) ne) has)
          (here_or m n e d)

      on : (n d : ℕ) → Carries (holder n d) → Carries (gone' n d)
      on n d has = ⊎_elim
          (λ (h : (n ≡ m) × (d ≡ e)). subst Carries (sym (put2-same holder m e n d (Leaving c) h.0 h.1)) tt)
          (λ (ne : n ≡ m → d ≢ e). subst Carries (sym (put2-other holder m e n d (Leaving c) ne)) has)
          (here_or m n e d)
