-- Lists whose elements are said by bytes, one after the other.
use Rattle.std.proofs.Common.{◌≡◌, ℕ, suc, ◌+◌, ◌<◌, List, [], ◌∷◌, ◌++◌, length, take, drop, ◌≤◌, get_or, refl, sym, ap, subst, ◌∙◌, arith}
use Rattle.std.proofs.Common.{append_assoc, drop-cons}
use Rattle.std.specs.Prelude.{All, slice_set}
use Rattle.std.specs.List.{flat_map}
use Rattle.std.proofs.lemmas.List.{append-nil, take-append-drop, take_more_set, length-take-le}
use Rattle.std.proofs.lemmas.List.Concat.{flat_map-append}
use Rattle.std.proofs.lemmas.List.Elements.{All-head, All-tail, All-take, All-push, All-get_or}

-- each element is determined by what it is said by, wherever that is in front
module _ {X : Type 0} (P : X → Type 0) (f : X → List ℕ) (d : X) (told : (x y : X) (rest more : List ℕ) → P x → P y → f x ++ rest ≡ f y ++
    more → (x ≡ y) × (rest ≡ more)) where
  -- so are as many of them
  pub flat_prefix : (xs ys : List X) (rest more : List ℕ) → length xs ≡ length ys → All P xs → All P ys → flat_map f xs ++ rest ≡ flat_map f
      ys ++ more → (xs ≡ ys) × (rest ≡ more)
  flat_prefix [] [] rest more n h k e = (refl, e)
  flat_prefix [] (y ∷ ys) rest more n h k e = absurd (omega arith)
  flat_prefix (x ∷ xs) [] rest more n h k e = absurd (omega arith)
  flat_prefix (x ∷ xs) (y ∷ ys) rest more n h k e =
      let cut = told x y (flat_map f xs ++ rest) (flat_map f ys ++ more) (All-head P x xs h) (All-head P y ys k)
      (sym (append_assoc (f x) (flat_map f xs) rest) ∙ (e ∙ append_assoc (f y) (flat_map f ys) more)) in
      let same = flat_prefix xs ys rest more (omega arith) (All-tail P x xs h) (All-tail P y ys k) cut.1 in
      let first : x ≡ y = cut.0 in
      let behind : xs ≡ ys = same.0 in
      (cc, same.1)

  -- one more is read
  pub reads_more : (bytes : List ℕ) (xs : List X) (i : ℕ) (x : X) (rest rest' : List ℕ) → i < length xs → bytes ≡ flat_map f (take i xs) ++
      rest → rest ≡ f x ++ rest'
      → bytes ≡ flat_map f (take (i + 1) (slice_set xs i x)) ++ rest'
  reads_more bytes xs i x rest rest' inside e here =
      let one : flat_map f (take i xs ++ x ∷ []) ≡ flat_map f (take i xs) ++ f x = flat_map-append f (take i xs) (x ∷ []) ∙ ap
      (λ (l : List ℕ). flat_map f (take i xs) ++ l) (append-nil (f x)) in
      e ∙ (ap (λ (l : List ℕ). flat_map f (take i xs) ++ l) here ∙
      (sym (append_assoc (flat_map f (take i xs)) (f x) rest') ∙ ap (λ (l : List ℕ). l ++ rest')
      (sym one ∙ ap (flat_map f) (sym (take_more_set xs i x inside)))))

  -- what the i-th and those after it are said by
  cut_at : (others : List X) (i : ℕ) (more : List ℕ) → i < length others
      → flat_map f others ++ more ≡ flat_map f (take i others) ++ (f (get_or others i d) ++ (flat_map f (drop (suc i) others) ++ more))
  cut_at others i more inside =
      let x = get_or others i d in
      let behind = flat_map f (drop (suc i) others) in
      let cut : others ≡ take i others ++ x ∷ drop (suc i) others = sym (take-append-drop i others) ∙ ap
      (λ (l : List X). take i others ++ l) (drop-cons others i d inside) in
      ap (λ (l : List X). flat_map f l ++ more) cut ∙ (ap (λ (l : List ℕ). l ++ more)
      (flat_map-append f (take i others) (x ∷ drop (suc i) others)) ∙
      (append_assoc (flat_map f (take i others)) (f x ++ behind) more ∙ ap (λ (l : List ℕ). flat_map f (take i others) ++ l)
      (append_assoc (f x) behind more)))

  -- where none can be read, there is no list of this many
  pub reads_stop : (bytes : List ℕ) (xs : List X) (i n : ℕ) (rest : List ℕ) → i < n → n ≤ length xs → All P (take i xs) → bytes ≡ flat_map f (take i xs) ++ rest
      → ((x : X) (more : List ℕ) → P x → rest ≡ f x ++ more → ⊥)
      → (others : List X) (more : List ℕ) → length others ≡ n → All P others → bytes ≡ flat_map f others ++ more → ⊥
  reads_stop bytes xs i n rest inside room each read none others more size h e =
      let x = get_or others i d in
      let behind = flat_map f (drop (suc i) others) in
      let long : length (take i xs) ≡ length (take i others) = length-take-le i xs (omega arith) ∙ sym (length-take-le i others (omega arith)) in
      let same = flat_prefix (take i xs) (take i others) rest (f x ++ (behind ++ more)) long each (All-take P i others h)
      (sym read ∙ (e ∙ cut_at others i more (omega arith))) in
      none x (behind ++ more) (All-get_or P others i d (omega arith) h) same.1

  -- each that was read is one
  pub one_more : (xs : List X) (i : ℕ) (x : X) → i < length xs → All P (take i xs) → P x → All P (take (i + 1) (slice_set xs i x))
  one_more xs i x inside each here = subst (λ (l : List X). All P l) (sym (take_more_set xs i x inside)) (All-push P (take i xs) x each here)

  -- bytes that go on after those of some elements go on with the next one's
  pub goes_on : (bytes : List ℕ) (done : List X) (rest : List ℕ) → All P done → bytes ≡ flat_map f done ++ rest
      → (others : List X) (more : List ℕ) → length done < length others → All P others → bytes ≡ flat_map f others ++ more
      → (others ≡ done ++ get_or others (length done) d ∷ drop (suc (length done)) others)
      × (rest ≡ f (get_or others (length done) d) ++ (flat_map f (drop (suc (length done)) others) ++ more))
  goes_on bytes done rest each read others more inside h e =
      let i = length done in
      let x = get_or others i d in
      let long : length done ≡ length (take i others) = sym (length-take-le i others (omega arith)) in
      let same = flat_prefix done (take i others) rest (f x ++ (flat_map f (drop (suc i) others) ++ more)) long each (All-take P i others h)
      (sym read ∙ (e ∙ cut_at others i more inside)) in (
        sym (take-append-drop i others) ∙ (ap (λ (l : List X). take i others ++ l) (drop-cons others i d inside) ∙ ap
            (λ (l : List X). l ++ x ∷ drop (suc i) others) (sym same.0)),
        same.1,
      )
