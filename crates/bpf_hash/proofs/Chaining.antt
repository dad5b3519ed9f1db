-- Chains of elements: to one comes an element, and from one goes an element.
use Rattle.std.proofs.Common.{◌≡◌, ◌≢◌, ℕ, zero, suc, ◌+◌, ◌-◌, ◌<◌, ◌≤◌, Bool, true, false, List, [], ◌∷◌, length, set, get_or}
use Rattle.std.proofs.Common.{slice_index, ◌⊎◌, inl, inr, refl, sym, ap, subst, ◌∙◌, arith}
use Rattle.std.specs.List.{count_by}
use Rattle.std.proofs.lemmas.List.{get_or-set_same, get_or-set_other, length-set}
use Rattle.std.proofs.lemmas.List.Sums.{count_by-le-length}
use Rattle.bpf_hash.specs.Private.Chains.{Has, IsDistinct, IsChain, chain_length, Links, IsChainOf, IsChainedAt, IsLinks, AreAsMany, GetsChained, GetsUnchained}
use Rattle.bpf_shared.proofs.Puts.{equal_or_not}
use Rattle.bpf_hash.proofs.Linking.{count-unmarked, marked_inside}

-- ---- distinct numbers are no more than there are
distinct_marked : (xs : List ℕ) (ms : List Bool) → IsDistinct xs → ((i : ℕ) → Has xs i → get_or ms i false ≡ true) → length xs ≤ count_by (λ x. x) ms
distinct_marked [] ms d all = omega arith
distinct_marked (x ∷ xs) ms d all =
    let marked : get_or ms x false ≡ true = all x (inl refl) in
    let one : count_by (λ x. x) (set ms x false) + 1 ≡ count_by (λ x. x) ms = count-unmarked ms x (marked_inside ms x marked) marked in
    let rest : length xs ≤ count_by (λ x. x) (set ms x false) = distinct_marked xs (set ms x false) d.1
    (λ i h. get_or-set_other ms x i false false (λ e. d.0 (subst (Has xs) e h)) ∙ all i (inr h)) in
    omega arith

abbrev all_marked : ℕ → List Bool
all_marked zero = []
all_marked (suc n) = true ∷ all_marked n

length-all_marked : (n : ℕ) → length (all_marked n) ≡ n
length-all_marked zero = refl
length-all_marked (suc n) = ap suc (length-all_marked n)

get_or-all_marked : (n i : ℕ) → i < n → get_or (all_marked n) i false ≡ true
get_or-all_marked zero i l = absurd (omega arith)
get_or-all_marked (suc n) zero l = refl
get_or-all_marked (suc n) (suc i) l = get_or-all_marked n i (omega arith)

pub distinct_length : (xs : List ℕ) (n : ℕ) → IsDistinct xs → ((i : ℕ) → Has xs i → i < n) → length xs ≤ n
distinct_length xs n d below =
    let most = count_by-le-length (λ (x : Bool). x) (all_marked n) in
    let count = distinct_marked xs (all_marked n) d (λ i h. get_or-all_marked n i (below i h)) in
    let long = length-all_marked n in
    omega arith

-- ---- one chain
pub same_chain : (nexts : List ℕ) (link : ℕ) (xs ys : List ℕ) → IsChain nexts link xs → IsChain nexts link ys → xs ≡ ys
same_chain nexts link [] [] p q = refl
same_chain nexts link [] (y ∷ ys) p q = absurd (let a : link ≡ 0 = p in let b : link ≡ y + 1 = q.0 in omega arith)
same_chain nexts link (x ∷ xs) [] p q = absurd (let a : link ≡ 0 = q in let b : link ≡ x + 1 = p.0 in omega arith)
same_chain nexts link (x ∷ xs) (y ∷ ys) p q =
    let a = p.0 in let b = q.0 in
    let e : x ≡ y = omega arith in
    (λ j. e j ∷ same_chain nexts (slice_index nexts x) xs ys p.1 (subst (λ (n : ℕ). IsChain nexts (slice_index nexts n) ys) (sym e) q.1) j)

pub chain-length : (nexts : List ℕ) (n link : ℕ) (xs : List ℕ) → IsChain nexts link xs → length xs ≤ n → chain_length nexts n link ≡ length xs
chain-length nexts zero link [] p l = refl
chain-length nexts zero link (x ∷ xs) p l = absurd (omega arith)
chain-length nexts (suc n) link [] p l = ap (chain_length nexts (suc n)) p
chain-length nexts (suc n) link (x ∷ xs) p l =
    let s : link ≡ suc x = (let a = p.0 in omega arith) in
    ap (chain_length nexts (suc n)) s ∙ ap suc (chain-length nexts n (slice_index nexts x) xs p.1 (omega arith))

-- the element that a link leads to
pub chain_step : (nexts : List ℕ) (link : ℕ) (xs : List ℕ) → link ≢ 0 → IsChain nexts link xs
    → (ys : List ℕ) × (xs ≡ (link - 1) ∷ ys) × IsChain nexts (slice_index nexts (link - 1)) ys
chain_step nexts link [] some p = absurd (some p)
chain_step nexts link (x ∷ xs) some p =
    let s : x ≡ link - 1 = (let a = p.0 in omega arith) in
    (xs, ap (λ (n : ℕ). n ∷ xs) s, subst (λ (n : ℕ). IsChain nexts (slice_index nexts n) xs) s p.1)

pub chain_end : (nexts : List ℕ) (link : ℕ) (xs : List ℕ) → link ≡ 0 → IsChain nexts link xs → (i : ℕ) → Has xs i → ⊥
chain_end nexts link [] e p i h = h
chain_end nexts link (x ∷ xs) e p i h = (let a = p.0 in omega arith)

-- a change elsewhere
pub chain-else : (nexts : List ℕ) (i v link : ℕ) (xs : List ℕ) → (Has xs i → ⊥) → IsChain nexts link xs → IsChain (set nexts i v) link xs
chain-else nexts i v link [] none p = p
chain-else nexts i v link (x ∷ xs) none p =
    let ne : x ≢ i = λ e. none (inl (sym e)) in (
      p.0,
      subst (λ (n : ℕ). IsChain (set nexts i v) n xs) (sym (get_or-set_other nexts i x v 0 ne))
          (chain-else nexts i v (slice_index nexts x) xs (λ h. none (inr h)) p.1),
    )

-- the elements without one of them
pub record IsWithout (e : ℕ) (xs ys : List ℕ) : Type 0 where
  pub distinct : IsDistinct ys
  pub was : (i : ℕ) → Has ys i → Has xs i × (i ≢ e)
  pub still : (i : ℕ) → Has xs i → i ≢ e → Has ys i

pub without_first : (e : ℕ) (xs : List ℕ) → IsDistinct (e ∷ xs) → IsWithout e (e ∷ xs) xs
without_first e xs d = record {
  distinct = d.1;
  was = λ i h. (inr h, λ s. d.0 (subst (Has xs) s h));
  still = λ i h ne. elim h [ inl s ↦ absurd (ne s) | inr k ↦ k ];
}

without_more : (e x : ℕ) (xs ys : List ℕ) → IsDistinct (x ∷ xs) → x ≢ e → IsWithout e xs ys → IsWithout e (x ∷ xs) (x ∷ ys)
without_more e x xs ys d ne w = record {
  distinct = (λ h. d.0 (w.was x h).0, w.distinct);
  was = λ i h. elim h [ inl s ↦ (inl s, λ q. ne (sym s ∙ q)) | inr k ↦ (inr (w.was i k).0, (w.was i k).1) ];
  still = λ i h none. elim h [ inl s ↦ inl s | inr k ↦ inr (w.still i k none) ];
}

-- the element before one leads to the one after it
pub chain-cut : (nexts : List ℕ) (p e : ℕ) → p < length nexts → slice_index nexts p ≡ e + 1
    → (link : ℕ) (xs : List ℕ) → IsChain nexts link xs → IsDistinct xs → Has xs p
    → (ys : List ℕ) × IsChain (set nexts p (slice_index nexts e)) link ys × IsWithout e xs ys
chain-cut nexts p e inside leads link [] c d h = absurd h
chain-cut nexts p e inside leads link (x ∷ []) c d h = absurd (elim h [
  | inl s ↦ (let z : slice_index nexts x ≡ 0 = c.1 in let y : slice_index nexts x ≡ e + 1 = ap (slice_index nexts) (sym s) ∙ leads in omega arith)
  | inr k ↦ k
])
chain-cut nexts p e inside leads link (x ∷ (y ∷ xs)) c d h = elim (equal_or_not p x) [
  | inl s ↦
      let at : slice_index nexts x ≡ e + 1 = ap (slice_index nexts) (sym s) ∙ leads in
      let next : y ≡ e = (let a : slice_index nexts x ≡ y + 1 = c.1.0 in omega arith) in
      let new : slice_index (set nexts p (slice_index nexts e)) x ≡ slice_index nexts y =
      ap (slice_index (set nexts p (slice_index nexts e))) (sym s) ∙
      (get_or-set_same nexts p (slice_index nexts e) 0 inside ∙ ap (slice_index nexts) (sym next)) in
      let ne : x ≢ e = λ q. d.0 (inl (q ∙ sym next)) in
      let not_in : Has xs p → ⊥ = λ k. d.0 (inr (subst (Has xs) s k)) in (
        x ∷ xs,
        (
          c.0,
          subst (λ (n : ℕ). IsChain (set nexts p (slice_index nexts e)) n xs) (sym new)
              (chain-else nexts p (slice_index nexts e) (slice_index nexts y) xs not_in c.1.1),
        ),
        without_more e x (y ∷ xs) xs d ne (subst (λ (n : ℕ). IsWithout n (y ∷ xs) xs) next (without_first y xs d.1)),
      )
  | inr ne ↦
      let later : Has (y ∷ xs) p = elim h [ inl s ↦ absurd (ne s) | inr k ↦ k ] in
      let rest = chain-cut nexts p e inside leads (slice_index nexts x) (y ∷ xs) c.1 d.1 later in
      let apart : x ≢ e = λ q. d.0 (subst (Has (y ∷ xs)) (sym q) (follows (slice_index nexts x) (y ∷ xs) c.1 later)) in
      let same : slice_index (set nexts p (slice_index nexts e)) x ≡ slice_index nexts x = get_or-set_other nexts p x (slice_index nexts e)
      0 (λ q. ne (sym q)) in (
        x ∷ rest.0,
        (c.0, subst (λ (n : ℕ). IsChain (set nexts p (slice_index nexts e)) n rest.0) (sym same) rest.1),
        without_more e x (y ∷ xs) rest.0 d apart rest.2,
      )
]
  where
    -- what an element of a chain leads to is in the chain
    follows : (l : ℕ) (zs : List ℕ) → IsChain nexts l zs → Has zs p → Has zs e
    follows l [] q k = k
    follows l (z ∷ []) q k = absurd (elim k [
      | inl s ↦ (let a : slice_index nexts z ≡ 0 = q.1 in let b : slice_index nexts z ≡ e + 1 = ap (slice_index nexts) (sym s) ∙ leads in omega arith)
      | inr m ↦ m
    ])
    follows l (z ∷ (w ∷ zs)) q k = elim k [
      | inl s ↦ inr (inl (let a : slice_index nexts z ≡ w + 1 = q.1.0 in
          let b : slice_index nexts z ≡ e + 1 = ap (slice_index nexts) (sym s) ∙ leads in omega arith))
      | inr m ↦ inr (follows (slice_index nexts z) (w ∷ zs) q.1 m)
    ]

-- ---- the chains of all homes
pub nothing_linked : (x : Links) → ((b : ℕ) → slice_index x.heads b ≡ 0) → (b i : ℕ) → IsChainedAt x b i → ⊥
nothing_linked x ends b i (([]), c, h) = h
nothing_linked x ends b i ((y ∷ ys), c, h) = (let a : slice_index x.heads b ≡ y + 1 = c.0 in let z = ends b in omega arith)

pub empty_links : (x : Links) → ((b : ℕ) → slice_index x.heads b ≡ 0) → length x.nexts < 0x1_0000_0000 → IsLinks x
empty_links x ends l = record {
  fits = l;
  chain = λ b. ([], ends b, tt);
  inside = λ b i at. absurd (nothing_linked x ends b i at);
  apart = λ b c i at other. absurd (nothing_linked x ends b i at);
}

pub at_chain : (x : Links) (b i : ℕ) (xs : List ℕ) → IsChainOf x b xs → IsChainedAt x b i → Has xs i
at_chain x b i xs c at = subst (λ (l : List ℕ). Has l i) (same_chain x.nexts (slice_index x.heads b) at.0 xs at.1 c) at.2

pub chain_most : (x : Links) → IsLinks x → (b : ℕ) (xs : List ℕ) → IsChainOf x b xs → length xs ≤ length x.nexts
chain_most x is b xs c =
    let own = is.chain b in
    let same : own.0 ≡ xs = same_chain x.nexts (slice_index x.heads b) own.0 xs own.1 c in
    distinct_length xs (length x.nexts) (subst IsDistinct same own.2) (λ i h. is.inside b i (xs, c, h))

-- an element that the first one isn't is after the first
pub later_still : (link e : ℕ) (xs : List ℕ) → link ≢ 0 → link ≢ e + 1 → Has ((link - 1) ∷ xs) e → Has xs e
later_still link e xs some other h = elim h [
  | inl s ↦ absurd (other (let q : e ≡ link - 1 = s in let a : link ≡ 0 → ⊥ = some in omega arith))
  | inr k ↦ k
]

pub first_step : (x : Links) (is : IsLinks x) (b e : ℕ) → IsChainedAt x b e → slice_index x.heads b ≢ e + 1
    → (slice_index x.heads b ≢ 0) × IsChainedAt x b (slice_index x.heads b - 1)
    × ((rest : List ℕ) × IsChain x.nexts (slice_index x.nexts (slice_index x.heads b - 1)) rest × (length rest ≤ length x.nexts) ×
    ((i : ℕ) → Has rest i → IsChainedAt x b i) × Has rest e)
first_step x is b e at other =
    let link = slice_index x.heads b in
    let own = is.chain b in
    let here : Has own.0 e = at_chain x b e own.0 own.1 at in
    let some : link ≢ 0 = λ z. chain_end x.nexts link own.0 z own.1 e here in
    let step = chain_step x.nexts link own.0 some own.1 in
    let most = chain_most x is b own.0 own.1 in
    let long : length own.0 ≡ length ((link - 1) ∷ step.0) = ap (λ (l : List ℕ). length l) step.1 in (
      some,
      (own.0, own.1, subst (λ (l : List ℕ). Has l (link - 1)) (sym step.1) (inl refl)),
      (
        step.0,
        step.2,
        omega arith,
        λ i h. (own.0, own.1, subst (λ (l : List ℕ). Has l i) (sym step.1) (inr h)),
        later_still link e step.0 some other (subst (λ (l : List ℕ). Has l e) step.1 here),
      ),
    )

-- an element comes
module _ (x : Links) (is : IsLinks x) (b i : ℕ) (bi : b < length x.heads) (ii : i < length x.nexts) (new : (c : ℕ) → IsChainedAt x c i → ⊥) where
  abbrev pub with_link : Links
  with_link = record { heads = set x.heads b (i + 1); nexts = set x.nexts i (slice_index x.heads b) }

  here : slice_index with_link.heads b ≡ i + 1
  here = get_or-set_same x.heads b (i + 1) 0 bi

  else_ : (c : ℕ) → c ≢ b → slice_index with_link.heads c ≡ slice_index x.heads c
  else_ c ne = get_or-set_other x.heads b c (i + 1) 0 ne

  kept : (c link : ℕ) (xs : List ℕ) → IsChainOf x c xs → link ≡ slice_index x.heads c → IsChain with_link.nexts link xs
  kept c link xs p e = subst (λ (n : ℕ). IsChain with_link.nexts n xs) (sym e)
      (chain-else x.nexts i (slice_index x.heads b) (slice_index x.heads c) xs (λ h. new c (xs, p, h)) p)

  longer : (xs : List ℕ) → IsChainOf x b xs → IsChainOf with_link b (i ∷ xs)
  longer xs p = (here, kept b (slice_index with_link.nexts i) xs p (get_or-set_same x.nexts i (slice_index x.heads b) 0 ii))

  still : (c j : ℕ) → IsChainedAt x c j → IsChainedAt with_link c j
  still c j at = elim (equal_or_not c b) [
    | inl s ↦ subst (λ (n : ℕ). IsChainedAt with_link n j) (sym s)
        (let o : IsChainedAt x b j = subst (λ (n : ℕ). IsChainedAt x n j) s at in (i ∷ o.0, longer o.0 o.1, inr o.2))
    | inr ne ↦ (at.0, kept c (slice_index with_link.heads c) at.0 at.1 (else_ c ne), at.2)
  ]

  was : (c j : ℕ) → IsChainedAt with_link c j → ((c ≡ b) × (j ≡ i)) ⊎ IsChainedAt x c j
  was c j at =
      let own = is.chain c in
      elim (equal_or_not c b) [
        | inl s ↦
            let o = is.chain b in
            let h : Has (i ∷ o.0) j = at_chain with_link b j (i ∷ o.0) (longer o.0 o.1) (subst (λ (n : ℕ). IsChainedAt with_link n j) s at) in
            elim h [ inl e ↦ inl (s, e) | inr k ↦ inr (subst (λ (n : ℕ). IsChainedAt x n j) (sym s) (o.0, o.1, k)) ]
        | inr ne ↦ inr (own.0, own.1, at_chain with_link c j own.0 (kept c (slice_index with_link.heads c) own.0 own.1 (else_ c ne)) at)
      ]

  pub comes : GetsChained b i x with_link
  comes = record {
    many = record { homes = length-set x.heads b (i + 1); elements = length-set x.nexts i (slice_index x.heads b) };
    here = (let o = is.chain b in (i ∷ o.0, longer o.0 o.1, inl refl));
    still = still;
    was = was;
  }

  pub comes_links : IsLinks with_link
  comes_links =
      let count : length with_link.nexts ≡ length x.nexts = length-set x.nexts i (slice_index x.heads b) in
      let fits = is.fits in
      record {
        fits = omega arith;
        chain = λ c. (let own = is.chain c in elim (equal_or_not c b) [
          | inl s ↦ subst (λ (n : ℕ). (xs : List ℕ) × IsChainOf with_link n xs × IsDistinct xs) (sym s)
              (let o = is.chain b in (i ∷ o.0, longer o.0 o.1, (λ h. new b (o.0, o.1, h), o.2)))
          | inr ne ↦ (own.0, kept c (slice_index with_link.heads c) own.0 own.1 (else_ c ne), own.2)
        ]);
        inside = λ c j at. subst (λ (n : ℕ). j < n) (sym count)
            (elim (was c j at) [ inl p ↦ subst (λ (n : ℕ). n < length x.nexts) (sym p.1) ii | inr o ↦ is.inside c j o ]);
        apart = λ c d j p q. elim (was c j p) [
          | inl a ↦ elim (was d j q) [ inl z ↦ a.0 ∙ sym z.0 | inr z ↦ absurd (new d (subst (IsChainedAt x d) a.1 z)) ]
          | inr a ↦ elim (was d j q) [ inl z ↦ absurd (new c (subst (IsChainedAt x c) z.1 a)) | inr z ↦ is.apart c d j a z ]
        ];
      }

-- an element goes: its home has another chain, and all others have theirs
module _ (x y : Links) (is : IsLinks x) (b e : ℕ) (at : IsChainedAt x b e) (many : AreAsMany x y)
    (cut : (ys : List ℕ) × IsChainOf y b ys × IsWithout e (is.chain b).0 ys) (others : (c : ℕ) → c ≢ b → IsChainOf y c (is.chain c).0) where
  there : (c j : ℕ) → c ≢ b → IsChainedAt x c j → j ≢ e
  there c j ne a s = ne (is.apart c b e (subst (IsChainedAt x c) s a) at)

  went : (c j : ℕ) → IsChainedAt y c j → IsChainedAt x c j × (j ≢ e)
  went c j a = elim (equal_or_not c b) [
    | inl s ↦
        let h : Has cut.0 j = at_chain y b j cut.0 cut.1 (subst (λ (n : ℕ). IsChainedAt y n j) s a) in
        let w = cut.2.was j h in
        (subst (λ (n : ℕ). IsChainedAt x n j) (sym s) ((is.chain b).0, (is.chain b).1, w.0), w.1)
    | inr ne ↦
        let o : IsChainedAt x c j = ((is.chain c).0, (is.chain c).1, at_chain y c j (is.chain c).0 (others c ne) a) in
        (o, there c j ne o)
  ]

  pub goes : GetsUnchained e x y
  goes = record {
    many = many;
    still = λ c j a none. elim (equal_or_not c b) [
      | inl s ↦ subst (λ (n : ℕ). IsChainedAt y n j) (sym s) (
        cut.0,
        cut.1,
        cut.2.still j
            (at_chain x b j (is.chain b).0 (is.chain b).1 (subst (λ (n : ℕ). IsChainedAt x n j) s a)) none,
      )
      | inr ne ↦ ((is.chain c).0, others c ne, at_chain x c j (is.chain c).0 (is.chain c).1 a)
    ];
    was = went;
  }

  pub goes_links : IsLinks y
  goes_links =
      let count = many.elements in
      let fits = is.fits in
      record {
        fits = omega arith;
        chain = λ c. elim (equal_or_not c b) [
          | inl s ↦ subst (λ (n : ℕ). (xs : List ℕ) × IsChainOf y n xs × IsDistinct xs) (sym s) (cut.0, cut.1, cut.2.distinct)
          | inr ne ↦ ((is.chain c).0, others c ne, (is.chain c).2)
        ];
        inside = λ c j a. subst (λ (n : ℕ). j < n) (sym count) (is.inside c j (went c j a).0);
        apart = λ c d j p q. is.apart c d j (went c j p).0 (went d j q).0;
      }

-- the first element of a chain goes
module _ (x : Links) (is : IsLinks x) (b e : ℕ) (bi : b < length x.heads) (at : IsChainedAt x b e) (first : slice_index x.heads b ≡ e + 1) where
  abbrev pub without_head : Links
  without_head = record { heads = set x.heads b (slice_index x.nexts e); nexts = x.nexts }

  head_cut : (xs : List ℕ) → IsChainOf x b xs → IsDistinct xs → (ys : List ℕ) × IsChainOf without_head b ys × IsWithout e xs ys
  head_cut [] c d = absurd (let a : slice_index x.heads b ≡ 0 = c in omega arith)
  head_cut (z ∷ zs) c d =
      let s : z ≡ e = (let a : slice_index x.heads b ≡ z + 1 = c.0 in omega arith) in (
        zs,
        subst (λ (n : ℕ). IsChain x.nexts n zs) (ap (slice_index x.nexts) s ∙ sym
            (get_or-set_same x.heads b (slice_index x.nexts e) 0 bi)) c.1,
        subst (λ (n : ℕ). IsWithout n (z ∷ zs) zs) s (without_first z zs d),
      )

  head_many : AreAsMany x without_head
  head_many = record { homes = length-set x.heads b (slice_index x.nexts e); elements = refl }

  head_others : (c : ℕ) → c ≢ b → IsChainOf without_head c (is.chain c).0
  head_others c ne = subst (λ (n : ℕ). IsChain x.nexts n (is.chain c).0) (sym (get_or-set_other x.heads b c (slice_index x.nexts e) 0 ne)) (is.chain c).1

  pub head_goes : GetsUnchained e x without_head
  head_goes = goes x without_head is b e at head_many (head_cut (is.chain b).0 (is.chain b).1 (is.chain b).2) head_others

  pub head_goes_links : IsLinks without_head
  head_goes_links = goes_links x without_head is b e at head_many (head_cut (is.chain b).0 (is.chain b).1 (is.chain b).2) head_others

-- one after another element goes
module _ (x : Links) (is : IsLinks x) (b p e : ℕ) (at : IsChainedAt x b e) (before : IsChainedAt x b p) (leads : slice_index x.nexts p ≡ e + 1) where
  abbrev pub without_link : Links
  without_link = record { heads = x.heads; nexts = set x.nexts p (slice_index x.nexts e) }

  link_many : AreAsMany x without_link
  link_many = record { homes = refl; elements = length-set x.nexts p (slice_index x.nexts e) }

  link_cut : (ys : List ℕ) × IsChainOf without_link b ys × IsWithout e (is.chain b).0 ys
  link_cut = chain-cut x.nexts p e (is.inside b p before) leads (slice_index x.heads b) (is.chain b).0 (is.chain b).1 (is.chain b).2
      (at_chain x b p (is.chain b).0 (is.chain b).1 before)

  link_others : (c : ℕ) → c ≢ b → IsChainOf without_link c (is.chain c).0
  link_others c ne = chain-else x.nexts p (slice_index x.nexts e) (slice_index x.heads c) (is.chain c).0
      (λ h. ne (is.apart c b p ((is.chain c).0, (is.chain c).1, h) before)) (is.chain c).1

  pub link_goes : GetsUnchained e x without_link
  link_goes = goes x without_link is b e at link_many link_cut link_others

  pub link_goes_links : IsLinks without_link
  link_goes_links = goes_links x without_link is b e at link_many link_cut link_others
