-- What is printed of values, of each plain store that the machine's shows.
use Rattle.std.specs.Prelude.{ℕ, List, Option}
use Rattle.bpf_shared.specs.declared.events.Span.{Span}
use Rattle.bpf_shared.specs.Sound.{IsSoundStore}
use Rattle.bpf_shared.specs.Store.{Plain}
use Rattle.bpf_plain.specs.PlainStore.{Contents, StandsFor}
use Rattle.bpf_names.specs.Names.{Names}
use Rattle.bpf_cpu.specs.declared.cpu.Cpu.{Cpu}
use Rattle.bpf_debug.specs.Held.{IsHeldLine, IsPlace, IsValueName}
use Rattle.bpf_debug.specs.Show.{AreShownLines, IsMeaning, IsShownLine, IsWordsIn}

abbrev pub OfEach : Contents → (Plain → Type 0) → Type 0
OfEach p Told = (s : Plain) → IsSoundStore s → StandsFor p s → Told s

abbrev pub ShowsPlace : Contents → ℕ → List ℕ → Type 0
ShowsPlace p at text = OfEach p (λ s. IsPlace s at text)

abbrev pub ShowsName : List (List ℕ) → Contents → ℕ → List ℕ → Type 0
ShowsName names p at name = OfEach p (λ s. IsValueName names s at name)

abbrev pub ShowsHeldLine : List (List ℕ) → Contents → Cpu → Span → List ℕ → Type 0
ShowsHeldLine names p state span line = OfEach p (λ s. IsHeldLine names s state span line)

abbrev pub ShowsWords : Names → Contents → ℕ → Option Span → List ℕ → Type 0
ShowsWords names p a found text = OfEach p (λ s. IsWordsIn names s a found text)

abbrev pub ShowsMeaning : Names → Contents → List Span → ℕ → List ℕ → Type 0
ShowsMeaning names p held a text = OfEach p (λ s. IsMeaning names s held a text)

abbrev pub ShowsLine : Names → Contents → List Span → ℕ → ℕ → List ℕ → Type 0
ShowsLine names p held k n line = OfEach p (λ s. IsShownLine names s held k n line)

abbrev pub ShowsLines
    : Names → Contents → List Span → ℕ → List ℕ → List (List ℕ) → Type 0
ShowsLines names p held k ns lines = OfEach p (λ s. AreShownLines names s held k ns lines)
