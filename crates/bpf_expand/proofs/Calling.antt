-- States that calls read and find are closed.
use Rattle.std.proofs.Common.{◌≡◌, ◌∙◌, ◌⊎◌, inl, inr, ◌+◌, ◌<◌, ◌≤◌, ◌++◌, ◌∷◌, ◌||◌, [], List, ℕ, zero, suc, Bool, true, false}
use Rattle.std.proofs.Common.{true≢false, if◌then◌else◌, Some}
use Rattle.std.proofs.Common.{drop, length, length-append, map, option_map, refl, slice_get, sym, ap, subst, arith}
use Rattle.std.specs.List.{list_any}
use Rattle.std.specs.Str.{bytes_eq}
use Rattle.std.proofs.lemmas.Bool.{cases_eq, cases_lt}
use Rattle.std.proofs.lemmas.List.Sums.{fold-append}
use Rattle.std.proofs.lemmas.Option.{slice_get-map, slice_get_within}
use Rattle.std.proofs.lemmas.Slice.Eq.{bytes_eq-Decides}
use Rattle.bpf_names.specs.Names.{Names}
use Rattle.bpf_cpu.specs.Task.{Waiting, InHand, Ended}
use Rattle.bpf_machine.specs.Hands.{IsFree, NoneWaits}
use Rattle.bpf_machine.specs.Machine.{MachineState}
use Rattle.bpf_machine.specs.Rounds.{HaveEnded}
use Rattle.bpf_expand.specs.declared.successor.Successor.{Successor}
use Rattle.bpf_expand.specs.State.{Host, HasSuccessor, IsIdleIn, IsSuccessor}
use Rattle.bpf_expand.specs.Parts.{AreFound, IsCall, IsFound, fresh, put, put_all}
use Rattle.bpf_expand.specs.Laws.{AreCalled, CallsClose, IsAmong}

-- ---- places in lists
get_front : {A : Type 0} (xs ys : List A) (i : ℕ) (x : A) → slice_get xs i ≡ Some x → slice_get (xs ++ ys) i ≡ Some x
get_front [] ys i x at = cc
get_front (y ∷ xs) ys zero x at = at
get_front (y ∷ xs) ys (suc i) x at = get_front xs ys i x at

get_rest : {A : Type 0} (xs ys : List A) (i : ℕ) (x : A) → slice_get ys i ≡ Some x → (j : ℕ) × (slice_get (xs ++ ys) j ≡ Some x)
get_rest [] ys i x at = (i, at)
get_rest (y ∷ xs) ys i x at = let r = get_rest xs ys i x at in (suc r.0, r.1)

get_within : {A : Type 0} (xs ys : List A) (i : ℕ) → i < length xs → slice_get (xs ++ ys) i ≡ slice_get xs i
get_within [] ys i less = absurd (omega arith)
get_within (x ∷ xs) ys zero less = refl
get_within (x ∷ xs) ys (suc i) less = get_within xs ys i (omega arith)

get_beyond : {A : Type 0} (xs : List A) (n i : ℕ) (x : A) → n ≤ i → slice_get xs i ≡ Some x → (j : ℕ) × (slice_get (drop n xs) j ≡ Some x)
get_beyond xs zero i x beyond at = (i, at)
get_beyond [] (suc n) i x beyond at = cc
get_beyond (y ∷ xs) (suc n) zero x beyond at = absurd (omega arith)
get_beyond (y ∷ xs) (suc n) (suc i) x beyond at = get_beyond xs n i x (omega arith) at

-- ---- states, each once
any_among : (xs : List (List ℕ)) (y : List ℕ) → list_any (bytes_eq y) xs ≡ true → IsAmong xs y
any_among [] y some = absurd (true≢false (sym some))
any_among (x ∷ xs) y some =
    by (bytes_eq y x) refl (λ other. any_among xs y (sym (ap (λ (b : Bool). b || list_any (bytes_eq y) xs) other) ∙ some))
  where
    by : (b : Bool) → bytes_eq y x ≡ b → (bytes_eq y x ≡ false → IsAmong xs y) → IsAmong (x ∷ xs) y
    by true same rest = (0, ap (λ (l : List ℕ). Some l) (sym ((bytes_eq-Decides y x).0 same)))
    by false other rest = let r = rest other in (suc r.0, r.1)

put_keeps : (xs : List (List ℕ)) (y x : List ℕ) → IsAmong xs x → IsAmong (put xs y) x
put_keeps xs y x (i, at) = by (list_any (bytes_eq y) xs)
  where
    by : (b : Bool) → IsAmong (if b then xs else xs ++ y ∷ []) x
    by true = (i, at)
    by false = (i, get_front xs (y ∷ []) i x at)

put_has : (xs : List (List ℕ)) (y : List ℕ) → IsAmong (put xs y) y
put_has xs y = by (list_any (bytes_eq y) xs) refl
  where
    by : (b : Bool) → list_any (bytes_eq y) xs ≡ b → IsAmong (if b then xs else xs ++ y ∷ []) y
    by true some = any_among xs y some
    by false none = get_rest xs (y ∷ []) 0 y refl

append_from : (xs : List (List ℕ)) (y x : List ℕ) (i : ℕ) → slice_get (xs ++ y ∷ []) i ≡ Some x → IsAmong xs x ⊎ (y ≡ x)
append_from [] y x zero at = inr (cc)
append_from [] y x (suc i) at = cc
append_from (z ∷ xs) y x zero at = inl (0, at)
append_from (z ∷ xs) y x (suc i) at = elim (append_from xs y x i at) [
  | inl among ↦ inl (suc among.0, among.1)
  | inr same ↦ inr same
]

put_from : (xs : List (List ℕ)) (y x : List ℕ) → IsAmong (put xs y) x → IsAmong xs x ⊎ (y ≡ x)
put_from xs y x among = by (list_any (bytes_eq y) xs) among
  where
    by : (b : Bool) → IsAmong (if b then xs else xs ++ y ∷ []) x → IsAmong xs x ⊎ (y ≡ x)
    by true there = inl there
    by false (i, at) = append_from xs y x i at

put_length : (xs : List (List ℕ)) (y : List ℕ) → length xs ≤ length (put xs y)
put_length xs y = by (list_any (bytes_eq y) xs)
  where
    by : (b : Bool) → length xs ≤ length (if b then xs else xs ++ y ∷ [])
    by true = omega arith
    by false = omega (arith, length-append xs (y ∷ []))

put_same : (xs : List (List ℕ)) (y : List ℕ) (i : ℕ) → i < length xs → slice_get (put xs y) i ≡ slice_get xs i
put_same xs y i less = by (list_any (bytes_eq y) xs)
  where
    by : (b : Bool) → slice_get (if b then xs else xs ++ y ∷ []) i ≡ slice_get xs i
    by true = refl
    by false = get_within xs (y ∷ []) i less

all_keep : (xs ys : List (List ℕ)) (x : List ℕ) → IsAmong xs x → IsAmong (put_all xs ys) x
all_keep xs [] x among = among
all_keep xs (y ∷ ys) x among = all_keep (put xs y) ys x (put_keeps xs y x among)

all_have : (xs ys : List (List ℕ)) (i : ℕ) (x : List ℕ) → slice_get ys i ≡ Some x → IsAmong (put_all xs ys) x
all_have xs [] i x at = cc
all_have xs (y ∷ ys) zero x at =
    let same : y ≡ x = cc in
    all_keep (put xs y) ys x (subst (IsAmong (put xs y)) same (put_has xs y))
all_have xs (y ∷ ys) (suc i) x at = all_have (put xs y) ys i x at

all_from : (xs ys : List (List ℕ)) (x : List ℕ) → IsAmong (put_all xs ys) x → IsAmong xs x ⊎ IsAmong ys x
all_from xs [] x among = inl among
all_from xs (y ∷ ys) x among = by (all_from (put xs y) ys x among)
  where
    here : IsAmong xs x ⊎ (y ≡ x) → IsAmong xs x ⊎ IsAmong (y ∷ ys) x
    here (inl there) = inl there
    here (inr same) = inr (0, ap (λ (l : List ℕ). Some l) same)

    by : IsAmong (put xs y) x ⊎ IsAmong ys x → IsAmong xs x ⊎ IsAmong (y ∷ ys) x
    by (inl there) = here (put_from xs y x there)
    by (inr (i, at)) = inr (suc i, at)

pub all_length : (xs ys : List (List ℕ)) → length xs ≤ length (put_all xs ys)
all_length xs [] = omega arith
all_length xs (y ∷ ys) = omega (arith, put_length xs y, all_length (put xs y) ys)

all_same : (xs ys : List (List ℕ)) (i : ℕ) → i < length xs → slice_get (put_all xs ys) i ≡ slice_get xs i
all_same xs [] i less = refl
all_same xs (y ∷ ys) i less = all_same (put xs y) ys i (omega (arith, put_length xs y)) ∙ put_same xs y i less

-- what is among both is among one
one_of_both : (xs ys : List (List ℕ)) (x : List ℕ) (i : ℕ) → slice_get (xs ++ ys) i ≡ Some x → IsAmong xs x ⊎ IsAmong ys x
one_of_both [] ys x i at = inr (i, at)
one_of_both (z ∷ xs) ys x zero at = inl (0, at)
one_of_both (z ∷ xs) ys x (suc i) at = elim (one_of_both xs ys x i at) [
  | inl among ↦ inl (suc among.0, among.1)
  | inr there ↦ inr there
]

-- what is led to was read, or is new
read_or_new : (read led : List (List ℕ)) (x : List ℕ) → IsAmong led x → IsAmong read x ⊎ IsAmong (fresh read led) x
read_or_new read led x (i, at) = by (all_have (put_all [] read) led i x at)
  where
    known : List (List ℕ)
    known = put_all [] read

    was_read : IsAmong [] x ⊎ IsAmong read x → IsAmong read x
    was_read (inl (j, none)) = cc
    was_read (inr among) = among

    placed : (j : ℕ) → slice_get (put_all (put_all [] read) led) j ≡ Some x → (j < length (put_all [] read)) ⊎ (length (put_all [] read) ≤ j)
        → IsAmong read x ⊎ IsAmong (fresh read led) x
    placed j there (inl less) = inl (was_read (all_from [] read x (j, sym (all_same (put_all [] read) led j less) ∙ there)))
    placed j there (inr beyond) = inr (get_beyond (put_all (put_all [] read) led) (length (put_all [] read)) j x beyond there)

    by : IsAmong (put_all (put_all [] read) led) x → IsAmong read x ⊎ IsAmong (fresh read led) x
    by (j, there) = placed j there (cases_lt j (length (put_all [] read)))

-- what is known at first, of those that were read and others
pub base_is : {A : Type 0} (f : A → List ℕ) (none one both : List (List ℕ)) (first second reads seens : List A) → none ≡ [] → first ≡ reads
    → second ≡ seens → one ≡ put_all none (map f first) → both ≡ put_all one (map f second) → both ≡ put_all [] (map f reads ++ map f seens)
base_is f none one both first second reads seens empty read known some all =
    let begun : one ≡ put_all [] (map f reads) =
    some ∙ (ap (λ (l : List (List ℕ)). put_all l (map f first)) empty ∙ ap (λ (l : List _). put_all [] (map f l)) read) in
    all ∙ (ap (λ (l : List _). put_all one (map f l)) known ∙ (ap (λ (l : List (List ℕ)). put_all l (map f seens)) begun
    ∙ sym (fold-append put [] (map f reads) (map f seens))))

-- what is left of the known states, after those that were read
pub fresh_is : (read led base known : List (List ℕ)) (first : ℕ) → base ≡ put_all [] read → first ≡ length base → known ≡ put_all base led
    → drop first known ≡ fresh read led
fresh_is read led base known first are count all =
    ap (drop first) all ∙ (ap (λ (n : ℕ). drop n (put_all base led)) count ∙ ap (λ (l : List (List ℕ)). drop (length l) (put_all l led)) are)

-- ---- what is found
-- what is found of the first n states, beside what was known before
abbrev pub AllFound : Host → Names → List (List ℕ) → ℕ → (base start known ends : List (List ℕ)) → Type 0
AllFound h names read n base start known ends = (led those : List (List ℕ)) × AreFound h names read n led those × (known ≡ put_all base led)
    × (ends ≡ put_all start those)

module _ (h : Host) (names : Names) where
  -- of one of the states
  FoundOf : List ℕ → List (List ℕ) → Type 0
  FoundOf bytes led = (more these : List (List ℕ)) × IsFound h names bytes more these × ((x : List ℕ) → IsAmong more x → IsAmong led x)

  found_one : (read : List (List ℕ)) (n : ℕ) (led ends : List (List ℕ)) → AreFound h names read n led ends → (i : ℕ) (bytes : List ℕ) → i < n
      → slice_get read i ≡ Some bytes → FoundOf bytes led
  unfolding FoundOf
  found_one read zero led ends found i bytes less at = absurd (omega arith)
  found_one read (suc n) led ends (last, there, before, more, those, these, found, is, led_is, ends_are) i bytes less at =
      by (cases_eq i n) (λ before_it. found_one read n before those found i bytes before_it at)
    where
      by : (i ≡ n) ⊎ (i ≡ n → ⊥) → (i < n → FoundOf bytes before) → FoundOf bytes led
      by (inl same) rest =
          let one : Some last ≡ Some bytes = sym there ∙ (ap (slice_get read) (sym same) ∙ at) in
          let is_last : last ≡ bytes = cc in (
            more,
            these,
            subst (λ (b : List ℕ). IsFound h names b more these) is_last is,
            λ x among. subst (λ (l : List (List ℕ)). IsAmong l x) (sym led_is) (get_rest before more among.0 x among.1),
          )
      by (inr other) rest =
          let r = rest (omega arith) in (
            r.0,
            r.1,
            r.2,
            λ x among. (let a = r.3 x among in subst (λ (l : List (List ℕ)). IsAmong l x) (sym led_is) (a.0, get_front before more a.0 x a.1)),
          )

  -- of one more state
  pub found_more : (read : List (List ℕ)) (n : ℕ) (bytes : List ℕ) (before more those these : List (List ℕ)) → slice_get read n ≡ Some bytes
      → AreFound h names read n before those → IsFound h names bytes more these → AreFound h names read (n + 1) (before ++ more) (those ++ these)
  found_more read n bytes before more those these at found is =
      let next : suc n ≡ n + 1 = omega arith in
      subst (λ (k : ℕ). AreFound h names read k (before ++ more) (those ++ these)) next (bytes, at, before, more, those, these, found, is, refl, refl)

  -- each CPU is idle, or its turn leads to one of them
  Goes : List ℕ → List (List ℕ) → ℕ → Type 0
  Goes bytes led c = IsIdleIn h bytes c ⊎ ((n : ℕ) × (next : List ℕ) × IsSuccessor h bytes c n next × IsAmong led next)

  free_of : (m : MachineState) (c : ℕ) → HaveEnded m.jobs → IsFree m.jobs c
  free_of m c ended = λ j task state left here. (
      let end = ended j task here.listed in
      let both : InHand state left ≡ Ended end.0 = sym here.at ∙ end.1 in cc)

  none_waits : (m : MachineState) (c : ℕ) → HaveEnded m.jobs → NoneWaits m.jobs c
  none_waits m c ended = λ j task input here. (
      let end = ended j task here.listed in
      let both : Waiting input ≡ Ended end.0 = sym here.at ∙ end.1 in cc)

  goes : (bytes : List ℕ) (led ends : List (List ℕ)) → IsFound h names bytes led ends → (c : ℕ) → Goes bytes led c
  unfolding Goes
  goes bytes led ends (inl (found, are, some, led_is, ends_are)) c = by (are.all c)
    where
      by : IsIdleIn h bytes c ⊎ HasSuccessor h bytes found c → Goes bytes led c
      by (inl idle) = inl idle
      by (inr (i, s, at, of, is)) = inr (
        s.ahead,
        s.bytes.items,
        is,
        subst (λ (l : List (List ℕ)). IsAmong l s.bytes.items) (sym led_is)
            (i, slice_get-map (λ (s : Successor). s.bytes.items) found i ∙ ap (option_map (λ (s : Successor). s.bytes.items)) at),
      )
  goes bytes led ends (inr (report, (m, is, ended, told), led_is, ends_are)) c = inl (m, is, free_of m c ended, none_waits m c ended)

  module _ (states : List (List ℕ)) (called : AreCalled h names states) where
    closed_at : (bytes : List ℕ) (c : ℕ) → IsAmong states bytes
        → IsIdleIn h bytes c ⊎ ((n : ℕ) × (next : List ℕ) × IsSuccessor h bytes c n next × IsAmong states next)
    unfolding FoundOf Goes
    closed_at bytes c among = of (called bytes among)
      where
        of : (read seen new ends : List (List ℕ)) × IsCall h names read seen new ends × IsAmong read bytes
            × ((b : List ℕ) → IsAmong read b → IsAmong states b) × ((b : List ℕ) → IsAmong seen b → IsAmong states b)
            × ((b : List ℕ) → IsAmong new b → IsAmong states b)
            → IsIdleIn h bytes c ⊎ ((n : ℕ) × (next : List ℕ) × IsSuccessor h bytes c n next × IsAmong states next)
        of (read, seen, new, ends, call, (i, at), reads, seens, news) = by (goes bytes one.0 one.1 one.2 c)
          where
            one : FoundOf bytes call.led
            one = found_one read (length read) call.led call.all call.found i bytes (slice_get_within read i bytes at) at

            known : (x : List ℕ) → IsAmong read x ⊎ IsAmong seen x → IsAmong states x
            known x (inl there) = reads x there
            known x (inr there) = seens x there

            kept : (x : List ℕ) → IsAmong (read ++ seen) x ⊎ IsAmong (fresh (read ++ seen) call.led) x → IsAmong states x
            kept x (inl (j, there)) = known x (one_of_both read seen x j there)
            kept x (inr there) = news x (subst (λ (l : List (List ℕ)). IsAmong l x) (sym call.new_is) there)

            by : Goes bytes one.0 c → IsIdleIn h bytes c ⊎ ((n : ℕ) × (next : List ℕ) × IsSuccessor h bytes c n next × IsAmong states next)
            by (inl idle) = inl idle
            by (inr (n, next, is, there)) = inr (n, next, is, kept next (read_or_new (read ++ seen) call.led next (one.3 next there)))

pub calls_close : CallsClose
calls_close h names states called = closed_at h names states called
