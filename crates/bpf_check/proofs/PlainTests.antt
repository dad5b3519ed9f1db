-- Without store buffers nothing is tested that is expected of CPUs with such alone.
use Rattle.std.proofs.Common.{◌≡◌, ℕ, zero, suc, Bool, true, false, not, cond, List, [], ◌∷◌, Option, Some, None, refl, subst}
use Rattle.std.specs.Prelude.{◌||◌, option_and_then, slice_get}
use Rattle.std.specs.List.{cons_option, filter_map}
use Rattle.bpf_lines.specs.Lines.{lines_of}
use Rattle.bpf_check.specs.Comments.{words_of}
use Rattle.bpf_check.specs.Expectation.{Expected, expected_in, only_test, test_in}
use Rattle.bpf_check.specs.Laws.{PlainTestsArePlain}
use Rattle.bpf_check.specs.Subjects.{Subjects}

module _ {Y : Type 0} (P : Y → Type 0) where
  kept : (o : Option Y) (ys : List Y) → ((y : Y) → o ≡ Some y → P y) → ((i : ℕ) (y : Y) → slice_get ys i ≡ Some y → P y)
      → (i : ℕ) (y : Y) → slice_get (cons_option o ys) i ≡ Some y → P y
  kept None ys first more i y at = more i y at
  kept (Some x) ys first more zero y at = first y at
  kept (Some x) ys first more (suc j) y at = more j y at

  -- where each element that is made is so, all of a list are
  each_of : {X : Type 0} (f : X → Option Y) (xs : List X) → ((x : X) (y : Y) → f x ≡ Some y → P y)
      → (i : ℕ) (y : Y) → slice_get (filter_map f xs) i ≡ Some y → P y
  each_of f [] keep i y at = let none : None ≡ Some y = at in absurd cc
  each_of f (x ∷ xs) keep i y at = kept (f x) (filter_map f xs) (λ z e. keep x z e) (each_of f xs keep) i y at

by_test : (x y : Expected) (ours its : Bool) → ours ≡ false → x.x86 ≡ its → cond (ours || not its) (Some x) None ≡ Some y → y.x86 ≡ false
by_test x y true its plain is e = let no : true ≡ false = plain in absurd cc
by_test x y false true plain is e = let no : None ≡ Some y = e in absurd cc
by_test x y false false plain is e = let same : x ≡ y = cc in subst (λ (z : Expected). z.x86 ≡ false) same is

by_option : (s : Subjects) (o : Option Expected) (y : Expected) → s.x86 ≡ false → option_and_then (only_test s) o ≡ Some y → y.x86 ≡ false
by_option s None y plain e = let no : None ≡ Some y = e in absurd cc
by_option s (Some x) y plain e = by_test x y s.x86 x.x86 plain refl e

pub plain_tests : PlainTestsArePlain
plain_tests s text i e plain at =
    each_of (λ y. y.x86 ≡ false) (λ line. test_in s (words_of line)) (lines_of text)
    (λ line y is. by_option s (expected_in s (words_of line)) y plain is) i e at
