-- The registers before a turn, and the lines of registers.
use Rattle.std.proofs.Common.{◌≡◌, ℕ, suc, ◌+◌, List, [], ◌∷◌, ◌++◌, Option, Some, None, drop, length, sym, ap, subst, ◌∙◌, append_assoc, append-nil, arith}
use Rattle.std.proofs.Math.Seq.{drop-length}
use Rattle.bpf_shared.specs.declared.events.Span.{Span}
use Rattle.bpf_shared.specs.Store.{Plain}
use Rattle.bpf_names.specs.Names.{Names}
use Rattle.bpf_cpu.specs.Task.{Task}
use Rattle.bpf_debug.specs.declared.recall.Recall.{Recall}
use Rattle.bpf_debug.specs.Recall.{IsRecall, IsStand, Past}
use Rattle.bpf_debug.specs.Show.{AreShownLines, HasRegisters, IsBefore, IsShownLine}

-- whatever lines are those of the registers that are left, they make these all
abbrev pub Completes : Names → Plain → List Span → ℕ → List ℕ → List (List ℕ) → Type 0
Completes names s held k ns lines =
    (rest : List (List ℕ)) → AreShownLines names s held k (drop k ns) rest → AreShownLines names s held 0 ns (lines ++ rest)

pub one_more_line : (names : Names) (s : Plain) (held : List Span) (k n : ℕ) (ns : List ℕ) (lines more : List (List ℕ)) (line : List ℕ) →
    drop k ns ≡ n ∷ drop (k + 1) ns
    → Completes names s held k ns lines → IsShownLine names s held k n line → more ≡ lines ++ line ∷ [] → Completes names s held (k + 1) ns more
one_more_line names s held k n ns lines more line next so_far one put rest are =
    let up : k + 1 ≡ suc k = omega arith in
    let behind : AreShownLines names s held (suc k) (drop (k + 1) ns) rest = subst (λ (j : ℕ). AreShownLines names s held j (drop (k + 1) ns) rest) up are in
    let both : AreShownLines names s held k (n ∷ drop (k + 1) ns) (line ∷ rest) = (one, behind) in
    let all = so_far (line ∷ rest) (subst (λ (ms : List ℕ). AreShownLines names s held k ms (line ∷ rest)) (sym next) both) in
    let same : more ++ rest ≡ lines ++ line ∷ rest = ap (λ (ls : List (List ℕ)). ls ++ rest) put ∙ append_assoc lines (line ∷ []) rest in
    subst (λ (ls : List (List ℕ)). AreShownLines names s held 0 ns ls) (sym same) all

pub all_lines : (names : Names) (s : Plain) (held : List Span) (k : ℕ) (ns : List ℕ) (lines : List (List ℕ)) → k ≡ length ns → Completes
    names s held k ns lines → AreShownLines names s held 0 ns lines
all_lines names s held k ns lines all so_far =
    let none : drop k ns ≡ [] = ap (λ (j : ℕ). drop j ns) all ∙ drop-length ns in
    let rest : AreShownLines names s held k [] [] = tt in
    subst (λ (ls : List (List ℕ)). AreShownLines names s held 0 ns ls) (append-nil lines)
    (so_far [] (subst (λ (ms : List ℕ). AreShownLines names s held k ms []) (sym none) rest))

kept_before : (kept : Recall) (registers : List ℕ) → ((jobs : List Task) (c : ℕ) → IsStand jobs c kept.stand → HasRegisters jobs c registers)
    → (c : ℕ) (past : Option Past) → IsRecall c (Some kept) past → IsBefore c past registers
kept_before kept registers has c None is = absurd is
kept_before kept registers has c (Some past) is = has past.before.jobs c is.0

pub recalled_before : (recall : Option Recall) (kept : Recall) (registers : List ℕ) → recall ≡ Some kept
    → ((jobs : List Task) (c : ℕ) → IsStand jobs c kept.stand → HasRegisters jobs c registers)
    → (c : ℕ) (past : Option Past) → IsRecall c recall past → IsBefore c past registers
recalled_before recall kept registers same has =
    let P : Option Recall → Type 0 = λ r. (c : ℕ) (past : Option Past) → IsRecall c r past → IsBefore c past registers in
    subst P (sym same) (kept_before kept registers has)
