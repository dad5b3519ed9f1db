-- A map's elements after a key is put into one of them, and after one leaves the map.
use Rattle.std.proofs.Common.{◌≡◌, ◌≢◌, ℕ, ◌+◌, ◌*◌, ◌<◌, Bool, true, false, cond, List, length, set, get_or, ◌⊎◌, inl, inr, sym, ap, subst, ◌∙◌, arith, map}
use Rattle.std.specs.List.{count_by}
use Rattle.std.proofs.lemmas.List.{get_or-set_same, get_or-set_other, get_or_past, length-set, length-map}
use Rattle.std.proofs.lemmas.List.Sums.{sum_by-set}
use Rattle.std.proofs.lemmas.Bool.{cases_lt}
use Rattle.bpf_base.proofs.Parts.{length-with_part}
use Rattle.bpf_hash.specs.declared.runs.Runs.{Runs}
use Rattle.bpf_hash.specs.Private.Runs.{count_of}
use Rattle.bpf_shared.specs.Shape.{elements}
use Rattle.bpf_hash.specs.Private.Rows.{Rows, key_of, bytes_of, linked_count, IsLinked, IsTable, IsMissing, linked_row, unlinked_row}
use Rattle.bpf_shared.proofs.Puts.{equal_or_not, true_or_false}
use Rattle.bpf_hash.proofs.Blocks.{block_fits, block-same, block-other}

-- ---- how many marks are set
abbrev bit : Bool → ℕ
bit b = cond b 1 0

pub count-set : (ms : List Bool) (i : ℕ) (b : Bool) → i < length ms
    → count_by (λ x. x) (set ms i b) + bit (get_or ms i false) ≡ count_by (λ x. x) ms + bit b
count-set ms i b l = sum_by-set bit ms i b false l

pub count-marked : (ms : List Bool) (i : ℕ) → i < length ms → get_or ms i false ≡ false → count_by (λ x. x) (set ms i true) ≡ count_by (λ x. x) ms + 1
count-marked ms i l e =
    moved (count_by (λ x. x) (set ms i true)) (count_by (λ x. x) ms) (bit (get_or ms i false)) (ap bit e) (count-set ms i true l)
  where
    moved : (m n k : ℕ) → k ≡ 0 → m + k ≡ n + 1 → m ≡ n + 1
    moved m n k z s = omega arith

pub count-unmarked : (ms : List Bool) (i : ℕ) → i < length ms → get_or ms i false ≡ true → count_by (λ x. x) (set ms i false) + 1 ≡ count_by (λ x. x) ms
count-unmarked ms i l e =
    moved (count_by (λ x. x) (set ms i false)) (count_by (λ x. x) ms) (bit (get_or ms i false)) (ap bit e) (count-set ms i false l)
  where
    moved : (m n k : ℕ) → k ≡ 1 → m + k ≡ n + 0 → m + 1 ≡ n
    moved m n k z s = omega arith

pub not_marked : (ms : List Bool) (i : ℕ) → (get_or ms i false ≡ true → ⊥) → get_or ms i false ≡ false
not_marked ms i unset = elim (true_or_false (get_or ms i false)) [ inl e ↦ absurd (unset e) | inr e ↦ e ]

pub marked_inside : (ms : List Bool) (i : ℕ) → get_or ms i false ≡ true → i < length ms
marked_inside ms i e = elim (cases_lt i (length ms)) [
  | inl l ↦ l
  | inr l ↦ absurd (let none : false ≡ true = sym (get_or_past ms i false l) ∙ e in cc)
]

pub linked_inside : (t : Rows) → IsTable t → (i : ℕ) → IsLinked t i → i < elements t.shape
linked_inside t is i l = omega (arith, marked_inside t.linked i l, is.linked)

-- ---- a key is put into an element
module _ (t : Rows) (is : IsTable t) (i : ℕ) (key bytes : List ℕ) (missing : IsMissing t key) (inside : i < elements t.shape)
    (free : IsLinked t i → ⊥) (size : length key ≡ t.shape.key) (long : length bytes ≡ t.shape.value) where
  abbrev after : Rows
  after = linked_row i key bytes t

  there : i < length t.linked
  there = omega (arith, is.linked)

  pub key-here : key_of after i ≡ key
  key-here = block-same t.keys key i (elements t.shape) t.shape.key is.keys size inside

  pub key-beside : (e : ℕ) → e < elements t.shape → e ≢ i → key_of after e ≡ key_of t e
  key-beside e l ne = block-other t.keys key i e (elements t.shape) t.shape.key is.keys size inside l ne

  pub bytes-here : bytes_of after i ≡ bytes
  bytes-here = block-same t.values bytes i (elements t.shape) t.shape.value is.values long inside

  pub bytes-beside : (e : ℕ) → e < elements t.shape → e ≢ i → bytes_of after e ≡ bytes_of t e
  bytes-beside e l ne = block-other t.values bytes i e (elements t.shape) t.shape.value is.values long inside l ne

  pub another : (e : ℕ) → IsLinked t e → e ≢ i
  another e l s = free (subst (IsLinked t) s l)

  pub key-old : (e : ℕ) → IsLinked t e → key_of after e ≡ key_of t e
  key-old e l = key-beside e (linked_inside t is e l) (another e l)

  pub linked_here : IsLinked after i
  linked_here = get_or-set_same t.linked i true false there

  pub linked_more : (e : ℕ) → IsLinked t e → IsLinked after e
  linked_more e l = get_or-set_other t.linked i e true false (another e l) ∙ l

  pub linked_was : (e : ℕ) → IsLinked after e → (e ≡ i) ⊎ IsLinked t e
  linked_was e l = elim (equal_or_not e i) [ inl s ↦ inl s | inr ne ↦ inr (sym (get_or-set_other t.linked i e true false ne) ∙ l) ]

  pub count-more : linked_count after ≡ linked_count t + 1
  count-more = count-marked t.linked i there (not_marked t.linked i free)

  distinct-after : (p q : ℕ) → IsLinked after p → IsLinked after q → key_of after p ≡ key_of after q → p ≡ q
  distinct-after p q lp lq e = elim (linked_was p lp) [
    | inl a ↦ elim (linked_was q lq) [
      | inl b ↦ a ∙ sym b
      | inr b ↦ absurd (missing q b (sym (key-old q b) ∙ (sym e ∙ (ap (key_of after) a ∙ key-here))))
    ]
    | inr a ↦ elim (linked_was q lq) [
      | inl b ↦ absurd (missing p a (sym (key-old p a) ∙ (e ∙ (ap (key_of after) b ∙ key-here))))
      | inr b ↦ is.distinct p q a b (sym (key-old p a) ∙ (e ∙ key-old q b))
    ]
  ]

  pub linked_table : linked_count t < t.shape.max → IsTable after
  linked_table room = record {
    shape = is.shape;
    cpus = is.cpus;
    linked = length-set t.linked i true ∙ is.linked;
    keys = length-with_part t.keys (i * t.shape.key) key (omega (arith, block_fits i (elements t.shape) t.shape.key inside, is.keys)) ∙ is.keys;
    values = length-with_part t.values (i * t.shape.value) bytes (omega (arith, block_fits i (elements t.shape) t.shape.value inside, is.values)) ∙ is.values;
    looked_up = is.looked_up;
    left = is.left;
    count = (let c : linked_count after ≡ linked_count t + 1 = count-more in omega arith);
    distinct = distinct-after;
  }

-- ---- an element leaves the map
module _ (runs : List Runs) (t : Rows) (is : IsTable t) (o : ℕ) (linked : IsLinked t o) (cpus : length runs ≡ t.cpus) where
  abbrev without : Rows
  without = unlinked_row runs o t

  within : o < elements t.shape
  within = linked_inside t is o linked

  marked : o < length t.linked
  marked = marked_inside t.linked o linked

  pub unlinked_was : (e : ℕ) → IsLinked without e → IsLinked t e × (e ≢ o)
  unlinked_was e l = elim (equal_or_not e o) [
    | inl s ↦ absurd (let f : false ≡ true = sym (ap (λ (n : ℕ). get_or (set t.linked o false) n false) s ∙ get_or-set_same t.linked o false false marked) ∙ l in
        cc)
    | inr ne ↦ (sym (get_or-set_other t.linked o e false false ne) ∙ l, ne)
  ]

  pub unlinked_still : (e : ℕ) → IsLinked t e → e ≢ o → IsLinked without e
  unlinked_still e l ne = get_or-set_other t.linked o e false false ne ∙ l

  pub count-less : linked_count without + 1 ≡ linked_count t
  count-less = count-unmarked t.linked o marked linked

  pub unlinked_table : IsTable without
  unlinked_table = record {
    shape = is.shape;
    cpus = is.cpus;
    linked = length-set t.linked o false ∙ is.linked;
    keys = is.keys;
    values = is.values;
    looked_up = is.looked_up;
    left = length-with_part t.left (o * t.cpus) (map count_of runs)
        (omega (arith, block_fits o (elements t.shape) t.cpus within, is.left, length-map runs count_of)) ∙ is.left;
    count = (let c : linked_count without + 1 ≡ linked_count t = count-less in let m = is.count in omega arith);
    distinct = λ p q lp lq e. is.distinct p q (unlinked_was p lp).0 (unlinked_was q lq).0 e;
  }

  -- the key is gone
  pub unlinked_missing : (key : List ℕ) → key_of t o ≡ key → IsMissing without key
  unlinked_missing key at e l same = let was = unlinked_was e l in was.1 (is.distinct e o was.0 linked (same ∙ sym at))

  pub unlinked_room : linked_count without < t.shape.max
  unlinked_room = (let c : linked_count without + 1 ≡ linked_count t = count-less in let m = is.count in omega arith)
