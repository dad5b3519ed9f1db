-- No world is shown by two of the machines that are kept.
use Rattle.std.proofs.Common.{◌≡◌, ◌∙◌, ℕ, suc, ◌*◌, ◌<◌, ◌≤◌, List, [], ◌∷◌, inl, inr, length, drop, refl, sym, ap, subst, arith}
use Rattle.std.specs.Prelude.{All, slice_index_or}
use Rattle.std.proofs.lemmas.Bool.{cases_lt}
use Rattle.bpf_shared.specs.Shape.{Shape}
use Rattle.bpf_plain.specs.PlainStore.{Contents, IsSavedAs}
use Rattle.bpf_hash.proofs.Blocks.{block_fits, length-part}
use Rattle.bpf_cpu.specs.Task.{Task}
use Rattle.bpf_machine.specs.Machine.{MachineState, Shows}
use Rattle.bpf_machine.specs.Parts.{chosen}
use Rattle.bpf_machine.specs.Schedule.{World}
use Rattle.bpf_explore.specs.Album.{AreApart}
use Rattle.bpf_explore.specs.Tuples.{tuple_at}
use Rattle.bpf_explore.specs.Private.Kept.{AreTuplesApart, part_at, ArePartsApart, store_at, AreStoresApart}
use Rattle.bpf_explore.specs.Private.Album.{Shelf, machine_at, machines, IsShelf}
use Rattle.bpf_explore.proofs.AlbumLaws.{kept_is}
use Rattle.bpf_plain.proofs.OneStore.{one_saving}

-- ---- numbers of what is kept once
one_part : (parts : List Task) → ArePartsApart parts → (n m : ℕ) → n < length parts → m < length parts → part_at parts n ≡ part_at parts m → n ≡ m
one_part parts apart n m a b same = elim (cases_lt n m) [
  | inl less ↦ absurd (apart n m less b same)
  | inr past ↦ elim (cases_lt m n) [
    | inl more ↦ absurd (apart m n more a (sym same))
    | inr here ↦ omega arith
  ]
]

one_store : (stores : List Contents) → AreStoresApart stores → (n m : ℕ) (bytes : List ℕ) → n < length stores → m < length stores →
    IsSavedAs (store_at stores n) bytes → IsSavedAs (store_at stores m) bytes → n ≡ m
one_store stores apart n m bytes a b first second = elim (cases_lt n m) [
  | inl less ↦ absurd (apart n m bytes less b first second)
  | inr past ↦ elim (cases_lt m n) [
    | inl more ↦ absurd (apart m n bytes more a second first)
    | inr here ↦ omega arith
  ]
]

chosen_once : (parts : List Task) → ArePartsApart parts → (ns ms : List ℕ) → All (λ n. n < length parts) ns → All (λ n. n < length parts) ms
    → chosen parts ns ≡ chosen parts ms → ns ≡ ms
chosen_once parts apart [] [] all too same = refl
chosen_once parts apart [] (m ∷ ms) all too same = cc
chosen_once parts apart (n ∷ ns) [] all too same = cc
chosen_once parts apart (n ∷ ns) (m ∷ ms) all too same =
    let head : part_at parts n ≡ part_at parts m = cc in
    let rest : chosen parts ns ≡ chosen parts ms = cc in
    let number : n ≡ m = one_part parts apart n m (all 0 0 (omega arith)) (too 0 0 (omega arith)) head in
    let numbers : ns ≡ ms = chosen_once parts apart ns ms (λ k d less. all (suc k) d (omega arith)) (λ k d less. too (suc k) d (omega arith)) rest in
    ap (λ (k : ℕ). k ∷ ns) number ∙ ap (λ (ks : List ℕ). m ∷ ks) numbers

first_and_rest : (ns : List ℕ) → 1 ≤ length ns → ns ≡ slice_index_or ns 0 0 ∷ drop 1 ns
first_and_rest [] some = absurd (omega arith)
first_and_rest (n ∷ ns) some = refl

both_same : (ns ms : List ℕ) → 1 ≤ length ns → 1 ≤ length ms → slice_index_or ns 0 0 ≡ slice_index_or ms 0 0 → drop 1 ns ≡ drop 1 ms → ns ≡ ms
both_same ns ms a b first rest =
    first_and_rest ns a ∙ (ap (λ (k : ℕ). k ∷ drop 1 ns) first ∙ (ap (λ (ks : List ℕ). slice_index_or ms 0 0 ∷ ks) rest ∙ sym (first_and_rest ms b)))

-- ---- states
module _ (h : Shape) (s : Shelf) (is : IsShelf h s) (stores : AreStoresApart s.stores)
    (saved : (i : ℕ) → i < length s.stores → (bytes : List ℕ) × IsSavedAs (store_at s.stores i) bytes) (parts : ArePartsApart s.parts)
    (states : AreTuplesApart s.states) where
  tuple_size : (i : ℕ) → i < s.states.count → 1 ≤ length (tuple_at s.states i)
  tuple_size i less =
      let fits = block_fits i s.states.count s.states.width less in
      let some = is.whole.0 in
      let size = is.whole.1 in
      let long = length-part s.states.numbers (i * s.states.width) s.states.width (omega arith) in
      omega arith

  one_tuple : (i j : ℕ) (w : World) → i < s.states.count → j < s.states.count → Shows (machine_at s i) w → Shows (machine_at s j) w →
      tuple_at s.states i ≡ tuple_at s.states j
  one_tuple i j w a b first second =
      let t = tuple_at s.states i in
      let u = tuple_at s.states j in
      let n = slice_index_or t 0 0 in
      let m = slice_index_or u 0 0 in
      let si = is.states i a in
      let sj = is.states j b in
      let p = saved n si.stored in
      let q = saved m sj.stored in
      let bytes : p.0 ≡ q.0 = one_saving (store_at s.stores n) (store_at s.stores m) w.store p.0 q.0 first.store second.store p.1 q.1 in
      let number : n ≡ m = one_store s.stores stores n m q.0 si.stored sj.stored (subst (IsSavedAs (store_at s.stores n)) bytes p.1) q.1 in
      let jobs : chosen s.parts (drop 1 t) ≡ chosen s.parts (drop 1 u) = sym first.jobs ∙ second.jobs in
      both_same t u (tuple_size i a) (tuple_size j b) number (chosen_once s.parts parts (drop 1 t) (drop 1 u) si.within sj.within jobs)

  pub are_apart : AreApart (machines s s.states.count)
  are_apart i j w (m, at, shows) (n, there, too) =
      let k = kept_is s i m at in
      let l = kept_is s j n there in
      let one = one_tuple i j w k.0 l.0 (subst (λ (x : MachineState). Shows x w) k.1 shows) (subst (λ (x : MachineState). Shows x w) l.1 too) in
      elim (cases_lt i j) [
        | inl less ↦ absurd (states i j less l.0 one)
        | inr past ↦ elim (cases_lt j i) [
          | inl more ↦ absurd (states j i more k.0 (sym one))
          | inr here ↦ omega arith
        ]
      ]
