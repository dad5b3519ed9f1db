-- What `hex`, `asm` and `disasm` reply to the text that they read.
use Rattle.std.specs.Prelude.{◌≡◌, ◌≢◌, ◌<◌, ◌⊎◌, ◌/◌, ℕ, Bool, true, false, List, [], All, Err, Ok, length, string_bytes, String}
use Rattle.std.specs.declared.alloc.Global.{Global}
use Rattle.bpf_insn.specs.declared.instruction.Insn.{Insn}
use Rattle.bpf_insn.specs.Encoding.{IsEncodedAs}
use Rattle.bpf_insn.specs.Refusal.{IsRefused, IsSized}
use Rattle.bpf_shared.specs.Shape.{Shape, without_arrays}
use Rattle.bpf_loader.specs.declared.named.Named.{Named}
use Rattle.bpf_loader.specs.Sound.{IsFirstRefusal, IsSound}
use Rattle.bpf_loader.specs.declared.refusal.LoadError.TheVariants as load_error
use Rattle.bpf_shared.specs.declared.events.Event.{Event}
use Rattle.bpf_cpu.specs.Input.{of_bytes}
use Rattle.bpf_cpu.specs.State.{start}
use Rattle.bpf_cpu.specs.Step.{Explains}
use Rattle.bpf_insn.specs.declared.error.InsnError.TheVariants as insn_error
use Rattle.bpf_text.specs.Assembly.{Assembles}
use Rattle.bpf_text.specs.Form.{canonical}
use Rattle.bpf_lines.specs.HexText.{IsHexOf}
use Rattle.bpf_lines.specs.declared.hex_text.HexError.TheVariants as hex_error
use Rattle.bpf_text.specs.declared.error.TextError.TheVariants as text_error
use Rattle.bpf_lines.specs.Lines.{lines_of}
use Rattle.bpf_disassembly.specs.Listing.Program.{program_lines}
use Rattle.bpf_disassembly.specs.Listing.Source.{IsSourceListing}
use Rattle.bpf_replies.specs.Listing.{word_lines}
use Rattle.bpf_replies.specs.declared.refusal.Refusal.{Refusal}
use Rattle.bpf_replies.specs.declared.refusal.Refusal.TheVariants as refusal
use Rattle.bpf_replies.specs.declared.reply.Reply.{Reply}
use Rattle.bpf_replies.specs.declared.reply.Reply.TheVariants as reply

-- the text has the words of these instructions as hex digits
abbrev pub IsWordsOf : List ℕ → List Insn → Type 0
IsWordsOf text is = (bytes : List ℕ) × IsHexOf text bytes × IsSized bytes × IsEncodedAs is bytes

-- why it has not: it isn't the hex digits of bytes, or the bytes are no instructions; want of
-- memory may take the place of any answer
abbrev pub RefusesWords : List ℕ → Refusal → Type 0
RefusesWords text (refusal.Hex hex_error.NotHex) = (bytes : List ℕ) → ¬ IsHexOf text bytes
RefusesWords text (refusal.Hex hex_error.OutOfMemory) = Unit {0}
RefusesWords text (refusal.Text text_error.OutOfMemory) = Unit {0}
RefusesWords text (refusal.Insn error) =
    (bytes : List ℕ) × IsHexOf text bytes × IsRefused error bytes
RefusesWords text _ = ⊥

-- what programs may name here: no map and no array
abbrev pub no_names : Named
no_names = record { maps = 0; arrays = 0 }

-- a store for one CPU that has neither
abbrev pub bare_shape : Shape
bare_shape = without_arrays 1 []

-- `hex`: the first refusal that applies to the program, for no maps; else what explains how its
-- run ends, on CPU 0
abbrev pub RefusesProgram : List ℕ → Refusal → Type 0
RefusesProgram text (refusal.Load error) = (is : List Insn) × IsWordsOf text is
    × (error ≢ load_error.OutOfMemory → IsFirstRefusal no_names is error)
RefusesProgram text r = RefusesWords text r

abbrev pub IsRun : ℕ → List ℕ → List ℕ → Reply → Type 0
IsRun budget context text (reply.Ended outcome) = (is : List Insn) × IsWordsOf text is
    × IsSound no_names is × (events : List Event)
    × Explains ⊥ bare_shape (record { instructions = is; named = no_names }) budget (start 0 (of_bytes context)) events outcome
IsRun budget context text (reply.Refused refusal.OutOfMemory) = Unit {0}
IsRun budget context text (reply.Refused r) = RefusesProgram text r
IsRun budget context text (reply.Text printed) = ⊥
IsRun budget context text (reply.Jobs printed stopped) = ⊥
IsRun budget context text (reply.Counted printed stopped stats) = ⊥
IsRun budget context text (reply.Script answers lines stopped refused) = ⊥
IsRun budget context text (reply.Outcomes printed stopped all) = ⊥
IsRun budget context text (reply.NoOutcome printed all) = ⊥
IsRun budget context text (reply.Several printed refused unmet told) = ⊥

-- `asm`: the words of the instructions that the text stands for, a line of 16 hex digits each
abbrev pub RefusesAssembly : List ℕ → Refusal → Type 0
RefusesAssembly text (refusal.Text error) =
    (error ≡ text_error.OutOfMemory) ⊎ Assembles text (Err error)
RefusesAssembly text (refusal.Insn error) = error ≡ insn_error.OutOfMemory
RefusesAssembly text _ = ⊥

-- and with `--listing`, the text's own lines with the pcs and the words after them
abbrev pub ShowsWords : (listing : Bool) → (text bytes printed : List ℕ) → Type 0
ShowsWords false text bytes printed = printed ≡ word_lines (length bytes / 8) bytes
ShowsWords true text bytes printed = IsSourceListing 0 bytes (lines_of text) printed

abbrev pub IsAssembled : (listing : Bool) → List ℕ → Reply → Type 0
IsAssembled listing text (reply.Text printed) = (is : List Insn) × (bytes : List ℕ)
    × Assembles text (Ok is) × All (λ b. b < 256) bytes × IsEncodedAs is bytes
    × ShowsWords listing text bytes (string_bytes printed)
IsAssembled listing text (reply.Refused r) = RefusesAssembly text r
IsAssembled listing text (reply.Ended outcome) = ⊥
IsAssembled listing text (reply.Jobs printed stopped) = ⊥
IsAssembled listing text (reply.Counted printed stopped stats) = ⊥
IsAssembled listing text (reply.Script answers lines stopped refused) = ⊥
IsAssembled listing text (reply.Outcomes printed stopped all) = ⊥
IsAssembled listing text (reply.NoOutcome printed all) = ⊥
IsAssembled listing text (reply.Several printed refused unmet told) = ⊥

-- `asm --run`: what `hex` replies to the words that `asm` prints, or why it prints none
abbrev pub IsAssembledRun : ℕ → List ℕ → List ℕ → Reply → Type 0
IsAssembledRun budget context text r =
    ((e : Refusal) × (r ≡ reply.Refused e) × RefusesAssembly text e)
    ⊎ ((printed : String Global) × IsAssembled false text (reply.Text printed)
    × IsRun budget context (string_bytes printed) r)

-- `disasm`: the canonical text of the instructions, and with `--pc` each line with its pc and its
-- words after it
abbrev pub shown_program : (pc : Bool) → (bytes : List ℕ) → List Insn → List ℕ
shown_program false bytes is = canonical is
shown_program true bytes is = program_lines 0 bytes is

abbrev pub IsDisassembled : (pc : Bool) → List ℕ → Reply → Type 0
IsDisassembled pc text (reply.Text printed) =
    (is : List Insn) × (found : IsWordsOf text is)
    × (string_bytes printed ≡ shown_program pc found.0 is)
IsDisassembled pc text (reply.Refused r) = RefusesWords text r
IsDisassembled pc text (reply.Ended outcome) = ⊥
IsDisassembled pc text (reply.Jobs printed stopped) = ⊥
IsDisassembled pc text (reply.Counted printed stopped stats) = ⊥
IsDisassembled pc text (reply.Script answers lines stopped refused) = ⊥
IsDisassembled pc text (reply.Outcomes printed stopped all) = ⊥
IsDisassembled pc text (reply.NoOutcome printed all) = ⊥
IsDisassembled pc text (reply.Several printed refused unmet told) = ⊥
