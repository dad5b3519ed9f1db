-- What is asked of moves that were made: how a CPU stood before the last of its turns of a kind (our own
-- choice).
use Rattle.std.specs.Prelude.{◌≡◌, ℕ, List, [], ◌∷◌, Option}
use Rattle.bpf_machine.specs.declared.machine.Turn.{Turn}
use Rattle.bpf_x86.specs.Machine.{X86, Move, TurnOf, FlushOf, TakesTurn}
use Rattle.bpf_buffering.specs.Search.{BufferedState, ShowsX86}
use Rattle.bpf_flushes.specs.Moves.{Makes}
use Rattle.bpf_debug.specs.declared.recall.Kind.{Kind}
use Rattle.bpf_debug.specs.declared.recall.Recall.{Recall}
use Rattle.bpf_debug.specs.Recall.{IsRecall, Past, past_after}

-- a move: the last of the CPU's turns of this kind, before it and after it
abbrev pub RecallsMove : Kind → ℕ → X86 → Option Past → Move → Option Past → X86 → Type 0
RecallsMove k c x old (TurnOf d) new z =
    (answer : Turn) × TakesTurn x d answer z × (new ≡ past_after k c x.world d answer old)
RecallsMove k c x old (FlushOf d) new z = Makes x (FlushOf d) z × (new ≡ old)

-- several, in order
abbrev pub Recalls : Kind → ℕ → X86 → Option Past → List Move → Option Past → X86 → Type 0
Recalls k c x old [] new z = (new ≡ old) × (z ≡ x)
Recalls k c x old (move ∷ moves) new z =
    (y : X86) × (mid : Option Past) × RecallsMove k c x old move mid y
    × Recalls k c y mid moves new z

-- ---- from each machine that the first shows to one that the second shows, and from each such turn that is
-- kept before the moves to the one that is kept after them
abbrev pub RecallsTo
    : Kind → ℕ → BufferedState → Option Recall → List Move → BufferedState → Option Recall → Type 0
RecallsTo k c old before moves new after =
    (x : X86) → ShowsX86 old x → (past : Option Past) → IsRecall c before past
    → (z : X86) × (next : Option Past) × Recalls k c x past moves next z × ShowsX86 new z
    × IsRecall c after next
