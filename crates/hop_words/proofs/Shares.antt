-- The content of a segment is a matter of its own words and of those of the elements that it reaches.
use Rattle.std.proofs.Common.{◌≡◌, ℕ, ◌≤◌, List, [], ◌∷◌, Option, Some, None, ◌==◌, refl, ap, sym, subst, ◌∙◌, arith, eq-eqb, inl, inr}
use Rattle.std.specs.Int.{bit_at}
use Rattle.bpf_shared.specs.declared.shapes.MapShape.{MapShape}
use Rattle.hop_words.specs.Content.{MapWords, one_if, times, item, HopsTo, LinksThrough, Reached, HasKey, IsShare, AgreesInSegment}

pub times_head : (e : ℕ) (es : List ℕ) → 1 ≤ times e (e ∷ es)
times_head e es = let z : one_if (e == e) ≡ 1 = ap one_if (eq-eqb e e refl) in omega arith

pub times_tail : (e f : ℕ) (es : List ℕ) → 1 ≤ times e es → 1 ≤ times e (f ∷ es)
times_tail e f es h = omega arith

follows_same : (link link' : ℕ → ℕ) (n : ℕ) (es : List ℕ) → ((e : ℕ) → 1 ≤ times e es → link' e ≡ link e) → LinksThrough link n es → LinksThrough link' n es
follows_same link link' n [] same p = p
follows_same link link' n (e ∷ es) same p = (
  p.0,
  subst (λ (k : ℕ). LinksThrough link' k es) (sym (same e (times_head e es)))
      (follows_same link link' (link e) es (λ f h. same f (times_tail f e es h)) p.1),
)

pub some_once : (e f : ℕ) → Some e ≡ Some f → e ≡ f
some_once e f h = cc

pub one_list : (link : ℕ → ℕ) (n : ℕ) (es fs : List ℕ) → LinksThrough link n es → LinksThrough link n fs → es ≡ fs
one_list link n [] [] p q = refl
one_list link n [] (f ∷ fs) p q = let z : None ≡ Some f = sym p ∙ q.0 in cc
one_list link n (e ∷ es) [] p q = let z : None ≡ Some e = sym q ∙ p.0 in cc
one_list link n (e ∷ es) (f ∷ fs) p q =
    let h : e ≡ f = some_once e f (sym p.0 ∙ q.0) in
    let t = one_list link (link e) es fs p.1 (subst (λ (k : ℕ). LinksThrough link (link k) fs) (sym h) q.1) in
    λ i. h i ∷ t i

module _ (seed : ℕ) (g : MapShape) (home : List ℕ → ℕ) (x y : MapWords) (m s : ℕ) (f : List ℕ → Option ℕ)
    (k : AgreesInSegment m s (Reached y m s) x y) (p : IsShare seed g home y m s f) where
  hops_back : (b d e : ℕ) → HopsTo x m s b d e → HopsTo y m s b d e
  hops_back b d e h = (h.0, h.1, sym (ap (λ n. bit_at n d) (k.hop b)) ∙ h.2, ap item (sym (k.slot _)) ∙ h.3)

  hops_on : (b d e : ℕ) → HopsTo y m s b d e → HopsTo x m s b d e
  hops_on b d e h = (h.0, h.1, ap (λ n. bit_at n d) (k.hop b) ∙ h.2, ap item (k.slot _) ∙ h.3)

  list_on : (es : List ℕ) → LinksThrough (y.link m) (y.head m s) es → LinksThrough (x.link m) (x.head m s) es
  list_on es h = subst (λ (n : ℕ). LinksThrough (x.link m) n es) (sym k.head)
      (follows_same (y.link m) (x.link m) (y.head m s) es (λ e t. k.link e (inr (es, h, t))) h)

  reached_on : (e : ℕ) → Reached y m s e → Reached x m s e
  reached_on e (inl h) = inl (h.0, h.1, hops_on h.0 h.1 e h.2)
  reached_on e (inr h) = inr (h.0, list_on h.0 h.1, h.2)

  reached_back : (e : ℕ) → Reached x m s e → Reached y m s e
  reached_back e (inl h) = inl (h.0, h.1, hops_back h.0 h.1 e h.2)
  reached_back e (inr h) = inr (
    p.sound.list,
    p.sound.follows,
    subst (λ es. 1 ≤ times e es)
        (one_list (x.link m) (x.head m s) h.0 p.sound.list h.1 (list_on p.sound.list p.sound.follows)) h.2,
  )

  key_back : (e : ℕ) (key : List ℕ) → Reached y m s e → HasKey g x m e key → HasKey g y m e key
  key_back e key r h = (h.0, h.1, λ j l. sym (k.key e j r) ∙ h.2 j l)

  key_on : (e : ℕ) (key : List ℕ) → Reached y m s e → HasKey g y m e key → HasKey g x m e key
  key_on e key r h = (h.0, h.1, λ j l. k.key e j r ∙ h.2 j l)

  pub share_agrees : IsShare seed g home x m s f
  share_agrees = record {
    sound = record {
      leads = λ b d lb ld bit. let t = p.sound.leads b d lb ld (sym (ap (λ n. bit_at n d) (k.hop b)) ∙ bit) in (t.0, hops_on b d t.0 t.1);
      hopped = λ q e lq is. let t = p.sound.hopped q e lq (ap item (sym (k.slot q)) ∙ is) in (t.0, t.1, hops_on t.0 t.1 e t.2, t.3);
      homes = λ b d e key h has. p.sound.homes b d e key (hops_back b d e h) (key_back e key (inl (b, d, hops_back b d e h)) has);
      one_hop = λ a b c d e h i. p.sound.one_hop a b c d e (hops_back a b e h) (hops_back c d e i);
      list = p.sound.list;
      follows = list_on p.sound.list p.sound.follows;
      one_place = p.sound.one_place;
      apart = λ b d e h. p.sound.apart b d e (hops_back b d e h);
    };
    each = λ e r. let t = p.each e (reached_back e r) in (t.0, key_on e t.0 (reached_back e r) t.1, t.2, t.3);
    all = λ key e is home. let t = p.all key e is home in (reached_on e t.0, key_on e key t.0 t.1);
  }
