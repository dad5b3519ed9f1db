-- Bytes that more was put after begin with what was there.
use Rattle.std.proofs.Common.{◌≡◌, ℕ, List, ◌++◌, Option, Some, None, Result, Ok, Err, OnErr, sym, subst}
use Rattle.std.specs.Prelude.{IfNone}
use Rattle.std.specs.Io.{StartsWith}
use Rattle.std.proofs.lemmas.Result.{on_err_weaker}
use Rattle.std.proofs.Transfers.{starts_with_of_append, starts_with_trans}

pub starts_more : (new mid old more : List ℕ) → new ≡ mid ++ more → StartsWith mid old → StartsWith new old
starts_more new mid old more e starts = starts_with_trans new mid old (starts_with_of_append new mid more e) starts

-- so where memory is refused
pub still_same : {A : Type 0} {E : Type 0} (r : Result A E) (new mid old : List ℕ) → new ≡ mid → StartsWith mid old → OnErr r (StartsWith new old)
still_same (Ok a) new mid old e starts = tt
still_same (Err x) new mid old e starts = subst (λ (l : List ℕ). StartsWith l old) (sym e) starts

-- and in a later part
pub still_starts : {A : Type 0} {E : Type 0} (r : Result A E) (old mid new more : List ℕ) → mid ≡ old ++ more → StartsWith new mid → OnErr r
    (StartsWith new old)
still_starts (Ok a) old mid new more e starts = tt
still_starts (Err x) old mid new more e starts = starts_with_trans new mid old starts (starts_with_of_append mid old more e)

-- and in the last part, whose result is handed on
pub starts_on : {A : Type 0} {E : Type 0} (r : Result A E) (new mid old : List ℕ) → StartsWith mid old → OnErr r (StartsWith new mid) →
    OnErr r (StartsWith new old)
starts_on r new mid old starts err = on_err_weaker r (λ s. starts_with_trans new mid old s starts) err

-- what is said of `None` holds
pub if_none : {A P : Type 0} (r : Option A) → P → IfNone r P
if_none None p = p
if_none (Some a) p = tt
