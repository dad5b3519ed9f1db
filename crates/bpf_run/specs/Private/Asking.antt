-- What is asked of a debugger, which answers lines, so that one function serves both debuggers.
use Rattle.std.specs.Prelude.{◌≡◌, ℕ, zero, suc, Bool, false, List, [], ◌∷◌, ◌++◌, codes}
use Rattle.std.specs.Fmt.{decimal}
use Rattle.bpf_run.specs.Hung.{steps_line}

-- a line leads from one value to another with this text, and is refused or isn't
abbrev pub Responds : Type 0 → Type 1
Responds S = S → S → (line text : List ℕ) → (refused : Bool) → Type 0

-- the moves of the schedule are made, where it has some
abbrev pub MakesMoves : {S : Type 0} → Responds S → S → List ℕ → S → Type 0
MakesMoves answers s [] t = t ≡ s
MakesMoves answers s (b ∷ bs) t = (text : List ℕ) × answers s t (steps_line (b ∷ bs)) text false

abbrev pub where_line : ℕ → List ℕ
where_line c = codes "where " ++ decimal c

-- what is answered to `where` of the first n CPUs, one after the other
abbrev pub AsksWhere : {S : Type 0} → Responds S → ℕ → S → List ℕ → S → Type 0
AsksWhere answers zero s text t = (text ≡ []) × (t ≡ s)
AsksWhere {S} answers (suc n) s text t =
    (m : S) × (before : List ℕ) × (line : List ℕ) × AsksWhere answers n s before m
    × answers m t (where_line n) line false × (text ≡ before ++ line)

-- so it is after the moves
abbrev pub TellsPlaces : {S : Type 0} → Responds S → ℕ → List ℕ → S → List ℕ → Type 0
TellsPlaces {S} answers cpus schedule s text =
    (m : S) × (t : S) × MakesMoves answers s schedule m × AsksWhere answers cpus m text t
