-- Several reads, and several writes, in a row.
use Rattle.std.proofs.Common.{◌≡◌, ◌∙◌, ℕ, ◌+◌, ◌<◌, ◌≤◌, List, ◌++◌, drop, length, take, Option, Some, None, ap, sym, append_assoc, arith}
use Rattle.std.proofs.Common.{length-append, length-drop, ◌-◌}
use Rattle.std.specs.Prelude.{IfSome}
use Rattle.std.proofs.lemmas.List.{take_all}
use Rattle.std.proofs.Math.Seq.{take-add}
use Rattle.std.specs.Io.KnownBytes.{Appends, Consumes}

pub consumed : (a b c : Option (List ℕ)) (xs ys : List ℕ) → Consumes a b xs → Consumes b c ys → Consumes a c (xs ++ ys)
consumed None b c xs ys p q = tt
consumed (Some x) None c xs ys p q = absurd p
consumed (Some x) (Some y) None xs ys p q = absurd q
consumed (Some x) (Some y) (Some z) xs ys p q = p ∙ ap (λ l. xs ++ l) q ∙ sym (append_assoc xs ys z)

-- what was read before, and one more read
pub consumed_more : (a b c : Option (List ℕ)) (old new bytes : List ℕ) → Consumes a b old → new ≡ old ++ bytes → Consumes b c bytes → Consumes a c new
consumed_more a b c old new bytes p e q = rw e (consumed a b c old bytes p q)

-- and how many bytes that takes at most
pub taken_more : (a b c : Option (List ℕ)) (xs room : List ℕ) (n : ℕ) → Consumes a b xs
    → ((ys : List ℕ) × Consumes b c ys × (length ys ≤ length room)) → length xs + length room ≤ n
    → (zs : List ℕ) × Consumes a c zs × (length zs ≤ n)
taken_more a b c xs room n p q fits =
    (xs ++ q.0, consumed a b c xs q.0 p q.1, let few = q.2 in omega (arith, length-append xs q.0))

-- there is at least as much as was read
pub longer : (a b : Option (List ℕ)) (bytes : List ℕ) (n : ℕ) → Consumes a b bytes → n < length bytes → IfSome a (λ xs. n < length xs)
longer None b bytes n p h = tt
longer (Some x) None bytes n p h = absurd p
longer (Some x) (Some y) bytes n p h = omega (arith, ap length p, length-append bytes y)

pub appended : (a b c : Option (List ℕ)) (xs ys : List ℕ) → Appends a b xs → Appends b c ys → Appends a c (xs ++ ys)
appended None b c xs ys p q = tt
appended (Some x) None c xs ys p q = absurd p
appended (Some x) (Some y) None xs ys p q = absurd q
appended (Some x) (Some y) (Some z) xs ys p q = q ∙ ap (λ l. l ++ ys) p ∙ append_assoc x xs ys

-- one more write, of some of the bytes after the first n
pub written_more : (a b c : Option (List ℕ)) (xs : List ℕ) (n more : ℕ) → Appends a b (take n xs)
    → Appends b c (take more (take (length xs - n) (drop n xs))) → Appends a c (take (n + more) xs)
written_more a b c xs n more p q =
    rw take-add (appended a b c (take n xs) (take more (drop n xs)) p (rw (take_all (length xs - n) (drop n xs) (omega (arith, length-drop n xs))) at q))
