-- An update that lacks an element comes after as many updates as there are elements.
use Rattle.std.proofs.Common.{◌≡◌, ◌≢◌, ℕ, zero, suc, ◌+◌, ◌<◌, ◌≤◌, Bool, true, false, List, [], ◌∷◌, ◌++◌, ◌==◌, if◌then◌else◌, length}
use Rattle.std.proofs.Common.{length-append, refl, ap, sym, subst, ◌∙◌, arith, eq-eqb, ne_eqb, true≢false, ⊎_elim}
use Rattle.std.proofs.lemmas.Bool.{cases_eq}
use Rattle.bpf_shared.specs.declared.events.Entry.{Entry}
use Rattle.bpf_shared.specs.declared.events.Event.{Event}
use Rattle.bpf_shared.specs.declared.events.Event.TheVariants.{Update}
use Rattle.bpf_shared.specs.declared.events.MapAnswer.TheVariants.{NoMemory}
use Rattle.bpf_shared.specs.Shape.{Shape, elements}
use Rattle.bpf_shared.specs.Store.{Plain}
use Rattle.bpf_shared.specs.History.{events_of}
use Rattle.bpf_shared.proofs.Chains.{events_of-append}
use Rattle.hop_layout.specs.Layout.{map_shape}
use Rattle.hop_words.specs.Content.{one_if, times}
use Rattle.hop_words.specs.Shortage.{is_update, updates_of, updates_in, IsTakenByUpdate, Moment, EachMayBeTaken, HasCause, HaveCauses}
use Rattle.hop_words.specs.Laws.{all_updates, lacks, FewUpdatesSuffice, LacksComeLate}
use Rattle.hop_words.proofs.Shortages.{updates_of-append, one_most}

-- ---- sums
-- of the first n
sum_first : (ℕ → ℕ) → ℕ → ℕ
sum_first f zero = 0
sum_first f (suc n) = f n + sum_first f n

sum_plus : (f g : ℕ → ℕ) (n : ℕ) → sum_first (λ i. f i + g i) n ≡ sum_first f n + sum_first g n
unfolding sum_first
sum_plus f g zero = omega arith
sum_plus f g (suc n) = let r = sum_plus f g n in omega arith

sum_most : (f g : ℕ → ℕ) (n : ℕ) → ((i : ℕ) → f i ≤ g i) → sum_first f n ≤ sum_first g n
unfolding sum_first
sum_most f g zero less = omega arith
sum_most f g (suc n) less = let r = sum_most f g n less in let z = less n in omega arith

sum_none : (f : ℕ → ℕ) (n : ℕ) → ((i : ℕ) → i < n → f i ≡ 0) → sum_first f n ≡ 0
unfolding sum_first
sum_none f zero none = refl
sum_none f (suc n) none = let z = none n (omega arith) in let r = sum_none f n (λ i less. none i (omega arith)) in omega arith

sum_ones : (n : ℕ) → sum_first (λ i. 1) n ≡ n
unfolding sum_first
sum_ones zero = refl
sum_ones (suc n) = let r = sum_ones n in omega arith

sum_some : (f : ℕ → ℕ) (n : ℕ) → ((i : ℕ) → i < n → 1 ≤ f i) → n ≤ sum_first f n
unfolding sum_first
sum_some f zero some = omega arith
sum_some f (suc n) some = let z = some n (omega arith) in let r = sum_some f n (λ i less. some i (omega arith)) in omega arith

-- a number is at most one of the first n
sum_once : (x n : ℕ) → sum_first (λ i. one_if (x == i)) n ≤ 1
unfolding sum_first
sum_once x zero = omega arith
sum_once x (suc n) = ⊎_elim
    (λ (is : x ≡ n).
    let none : sum_first (λ i. one_if (x == i)) n ≡ 0 = sum_none (λ i. one_if (x == i)) n (λ i less. ap one_if (ne_eqb x i (λ (q : x ≡ i). omega arith))) in
    let z = one_most (x == n) in
    omega arith)
    (λ (ne : x ≢ n).
    let z : one_if (x == n) ≡ 0 = ap one_if (ne_eqb x n ne) in
    let r = sum_once x n in
    omega arith)
    (cases_eq x n)

-- ---- as many as are among a list
sum_times : (xs : List ℕ) (n : ℕ) → sum_first (λ e. times e xs) n ≤ length xs
sum_times [] n = let z = sum_none (λ e. 0) n (λ i less. refl) in omega arith
sum_times (x ∷ xs) n =
    let s = sum_plus (λ e. one_if (x == e)) (λ e. times e xs) n in
    let o = sum_once x n in
    let r = sum_times xs n in
    omega arith

each_there : (xs : List ℕ) (n : ℕ) → ((e : ℕ) → e < n → 1 ≤ times e xs) → n ≤ length xs
each_there xs n there = let s = sum_some (λ e. times e xs) n there in let t = sum_times xs n in omega arith

times-append : (e : ℕ) (xs ys : List ℕ) → times e (xs ++ ys) ≡ times e xs + times e ys
times-append e [] ys = omega arith
times-append e (x ∷ xs) ys = let r = times-append e xs ys in omega arith

-- ---- what the first updates of each CPU took
first_of : (ℕ → ℕ) → ℕ → List ℕ
first_of take zero = []
first_of take (suc n) = take n ∷ first_of take n

first_length : (take : ℕ → ℕ) (n : ℕ) → length (first_of take n) ≡ n
unfolding first_of
first_length take zero = refl
first_length take (suc n) = let r = first_length take n in omega arith

first_there : (take : ℕ → ℕ) (n k e : ℕ) → k < n → take k ≡ e → 1 ≤ times e (first_of take n)
unfolding first_of
first_there take zero k e less is = absurd (omega arith)
first_there take (suc n) k e less is = ⊎_elim
    (λ (q : k ≡ n). let z : one_if (take n == e) ≡ 1 = ap one_if (eq-eqb (take n) e (ap take (sym q) ∙ is)) in omega arith)
    (λ (ne : k ≢ n). let r = first_there take n k e (grind arith) is in omega arith)
    (cases_eq k n)

all_first : (ℕ → ℕ → ℕ) → (ℕ → ℕ) → ℕ → List ℕ
all_first takes most zero = []
all_first takes most (suc c) = first_of (takes c) (most c) ++ all_first takes most c

all_length : (takes : ℕ → ℕ → ℕ) (most : ℕ → ℕ) (c : ℕ) → length (all_first takes most c) ≡ sum_first most c
unfolding all_first sum_first
all_length takes most zero = refl
all_length takes most (suc c) =
    let r = all_length takes most c in
    let f = first_length (takes c) (most c) in let a = length-append (first_of (takes c) (most c)) (all_first takes most c) in omega arith

all_there : (takes : ℕ → ℕ → ℕ) (most : ℕ → ℕ) (n c k e : ℕ) → c < n → k < most c → takes c k ≡ e → 1 ≤ times e (all_first takes most n)
unfolding all_first
all_there takes most zero c k e inside less is = absurd (omega arith)
all_there takes most (suc n) c k e inside less is = ⊎_elim
    (λ (q : c ≡ n).
    let f : 1 ≤ times e (first_of (takes n) (most n)) = subst (λ (i : ℕ). 1 ≤ times e (first_of (takes i) (most i))) q
    (first_there (takes c) (most c) k e less is) in
    let a = times-append e (first_of (takes n) (most n)) (all_first takes most n) in
    omega arith)
    (λ (ne : c ≢ n).
    let r = all_there takes most n c k e (grind arith) less is in
    let a = times-append e (first_of (takes n) (most n)) (all_first takes most n) in
    omega arith)
    (cases_eq c n)

-- ---- updates of all CPUs
-- the entry is an update by this CPU
mark : ℕ → Entry → ℕ → ℕ
mark m x c = if x.cpu == c then one_if (is_update m x.event) else 0

mark_adds : (m : ℕ) (x : Entry) (xs : List Entry) (c : ℕ) → updates_in (x ∷ xs) m c ≡ mark m x c + updates_in xs m c
unfolding mark
mark_adds m x xs c = go (x.cpu == c)
  where
    go : (b : Bool) → updates_of m (if b then x.event ∷ events_of c xs else events_of c xs) ≡
        (if b then one_if (is_update m x.event) else 0) + updates_of m (events_of c xs)
    go true = refl
    go false = omega arith

unmarked : (m : ℕ) (x : Entry) (c : ℕ) → c ≢ x.cpu → mark m x c ≡ 0
unfolding mark
unmarked m x c ne = ap (λ (b : Bool). if b then one_if (is_update m x.event) else 0) (ne_eqb x.cpu c (λ (q : x.cpu ≡ c). ne (sym q)))

mark_most : (m : ℕ) (x : Entry) (n : ℕ) → sum_first (mark m x) n ≤ one_if (is_update m x.event)
unfolding mark
mark_most m x n = go (is_update m x.event)
  where
    if_zero : (b : Bool) → (let z : ℕ = if b then 0 else 0 in z) ≡ 0
    if_zero true = refl
    if_zero false = refl

    if_one : (b : Bool) → (if b then 1 else 0) ≤ one_if b
    if_one true = omega arith
    if_one false = omega arith

    go : (u : Bool) → sum_first (λ c. if x.cpu == c then one_if u else 0) n ≤ one_if u
    go true = let s = sum_most (λ c. if x.cpu == c then 1 else 0) (λ c. one_if (x.cpu == c)) n (λ c. if_one (x.cpu == c)) in
        let o = sum_once x.cpu n in omega arith
    go false = let z = sum_none (λ c. if x.cpu == c then 0 else 0) n (λ c less. if_zero (x.cpu == c)) in omega arith

updates_sum : (m : ℕ) (history : List Entry) (n : ℕ) → sum_first (λ c. updates_in history m c) n ≤ all_updates m history
updates_sum m [] n = let z = sum_none (λ c. 0) n (λ i less. refl) in omega arith
updates_sum m (x ∷ xs) n =
    let more = sum_most (λ c. updates_in (x ∷ xs) m c) (λ c. mark m x c + updates_in xs m c) n (λ c. let e = mark_adds m x xs c in omega arith) in
    let s = sum_plus (mark m x) (λ c. updates_in xs m c) n in
    let o = mark_most m x n in
    let r = updates_sum m xs n in
    omega arith

all_updates-append : (m : ℕ) (xs ys : List Entry) → all_updates m (xs ++ ys) ≡ all_updates m xs + all_updates m ys
all_updates-append m [] ys = omega arith
all_updates-append m (x ∷ xs) ys = let r = all_updates-append m xs ys in omega arith

updates_in-append : (m c : ℕ) (xs ys : List Entry) → updates_in (xs ++ ys) m c ≡ updates_in xs m c + updates_in ys m c
updates_in-append m c xs ys = ap (updates_of m) (events_of-append c xs ys) ∙ updates_of-append m (events_of c xs) (events_of c ys)

-- ---- where an element may be lacked
-- there are as many elements as such updates at most
few_elements : (x : Moment) (made most : ℕ → ℕ) (m : ℕ) (may : EachMayBeTaken x made m) →
    ((e : ℕ) (t : IsTakenByUpdate x made may.0 m e) → t.update < most t.cpu) → elements (map_shape x.shape m) ≤ sum_first most x.shape.cpus
few_elements x made most m may bound =
    let n = x.shape.cpus in
    let all = all_first may.0 most n in
    let there = each_there all (elements (map_shape x.shape m)) (λ e few.
    let t = may.1 e few in all_there may.0 most n t.cpu t.update e t.inside (bound e t) t.this) in
    let size = all_length may.0 most n in
    omega arith

lack_of : (version : ℕ) (made : ℕ → ℕ → ℕ) (x : Moment) (m : ℕ) (e : Event) → lacks m e ≡ true → HasCause version made x e → EachMayBeTaken
    x (made m) m × (is_update m e ≡ true)
lack_of version made x m (Update n key bytes flags NoMemory) is cause = (subst (λ (i : ℕ). EachMayBeTaken x (made i) i) (same n m is) cause, is)
  where
    same : (a b : ℕ) → (a == b) ≡ true → a ≡ b
    same a b t = ⊎_elim (λ (q : a ≡ b). q) (λ (ne : a ≢ b). absurd (true≢false (sym t ∙ ne_eqb a b ne))) (cases_eq a b)
lack_of version made x m e is cause = absurd (true≢false (sym is))

module _ (h : Shape) (version : ℕ) (history : List Entry) (last : Plain) (m : ℕ) (causes : HaveCauses h version history last)
    (before after : List Entry) (x : Entry) (is : history ≡ before ++ (x ∷ after)) (lack : lacks m x.event ≡ true) where
  cause_there : (s : Plain) × EachMayBeTaken (record { shape = h; before = before; store = s; cpu = x.cpu }) (updates_in history m) m ×
      (is_update m x.event ≡ true)
  cause_there =
      let k = causes before after x is in
      let l = lack_of version (updates_in history) (record { shape = h; before = before; store = k.0; cpu = x.cpu }) m x.event lack k.3 in
      (k.0, l.0, l.1)

  abbrev at_last : Moment
  at_last = record { shape = h; before = before; store = cause_there.0; cpu = x.cpu }

  late : elements (map_shape h m) ≤ all_updates m before + h.cpus
  late =
      let few = few_elements at_last (updates_in history m) (λ c. updates_in before m c + 1) m cause_there.1 (λ e t. ⊎_elim
      (λ (b : t.update < updates_in before m t.cpu). omega arith)
      (λ (b : (t.cpu ≢ x.cpu) × (t.update ≡ updates_in before m t.cpu) × _). let z = b.1 in omega arith)
      t.begun) in
      let s = sum_plus (λ c. updates_in before m c) (λ c. 1) h.cpus in
      let o = sum_ones h.cpus in
      let u = updates_sum m before h.cpus in
      omega arith

  -- the updates but for the one that lacks
  many : elements (map_shape h m) < all_updates m history
  many =
      let few = few_elements at_last (updates_in history m) (λ c. updates_in before m c + updates_in after m c) m cause_there.1 (λ e t. ⊎_elim
      (λ (b : t.update < updates_in before m t.cpu). omega arith)
      (λ (b : (t.cpu ≢ x.cpu) × (t.update ≡ updates_in before m t.cpu) × _).
      let ends = t.ends in
      let cut : updates_in history m t.cpu ≡ updates_in (before ++ (x ∷ after)) m t.cpu = ap (λ (z : List Entry). updates_in z m t.cpu) is in
      let more = updates_in-append m t.cpu before (x ∷ after) in
      let adds = mark_adds m x after t.cpu in
      let none : mark m x t.cpu ≡ 0 = unmarked m x t.cpu b.0 in
      omega arith)
      t.begun) in
      let s = sum_plus (λ c. updates_in before m c) (λ c. updates_in after m c) h.cpus in
      let u = updates_sum m before h.cpus in
      let v = updates_sum m after h.cpus in
      let cut : all_updates m history ≡ all_updates m (before ++ (x ∷ after)) = ap (all_updates m) is in
      let more = all_updates-append m before (x ∷ after) in
      let one : one_if (is_update m x.event) ≡ 1 = ap one_if cause_there.2 in
      omega arith

pub few_updates_suffice : FewUpdatesSuffice
few_updates_suffice h version history last m causes few before after x is = go (lacks m x.event) refl
  where
    go : (b : Bool) → lacks m x.event ≡ b → b ≡ false
    go true lack = absurd (let z = many h version history last m causes before after x is lack in omega arith)
    go false lack = refl

pub lacks_come_late : LacksComeLate
lacks_come_late h version history last m causes before after x is lack = late h version history last m causes before after x is lack
