-- A CPU's state and what it is saved as.
use Rattle.std.proofs.Common.{◌≡◌, ℕ, ◌-◌, ◌^◌, ◌<◌, ◌≤◌, Option, Some, None, Result, Ok, Err, OnErr, List, [], ◌∷◌, ◌++◌, length, take}
use Rattle.std.proofs.Common.{drop, get_or, refl, sym, ap, ◌∙◌, arith, append_assoc, length-append}
use Rattle.std.specs.Prelude.{All, IfSome, IfNone}
use Rattle.std.proofs.lemmas.List.{length-take-le, take-append-drop}
use Rattle.std.proofs.lemmas.List.Elements.{All-nil, All-push, All-take, All-from_get_or}
use Rattle.bpf_base.specs.Bytes.{little_endian, low_bytes}
use Rattle.bpf_base.proofs.Numbers.{length-low_bytes, little_endian-low_bytes, low_bytes-little_endian}
use Rattle.bpf_base.proofs.Lists.{same_fronts}
use Rattle.bpf_mem.specs.Stack.{Stack}
use Rattle.bpf_mem.specs.Saved.{IsSavable, IsWord, frames_saved, words_saved}
use Rattle.bpf_mem.proofs.WordLemmas.{words_prefix}
use Rattle.bpf_mem.proofs.WordReading.{all_behind}
use Rattle.bpf_mem.proofs.FrameLemmas.{frames_told}
use Rattle.bpf_shared.specs.declared.events.Span.{Span}
use Rattle.bpf_helpers.specs.Saved.{AreSavable, spans_saved}
use Rattle.bpf_helpers.proofs.SpanLemmas.{spans_told}
use Rattle.bpf_cpu.specs.declared.cpu.Cpu.{Cpu}
use Rattle.bpf_cpu.specs.Saved.{cpu_saved, IsOfOneJob, IsSavableState}

pub none_then : {A P Q : Type 0} (r : Option A) → IfNone r P → (P → Q) → IfNone r Q
none_then None p f = f p
none_then (Some a) p f = tt

pub some_then : {A : Type 0} (P Q : A → Type 0) (r : Option A) → IfSome r P → ((a : A) → P a → Q a) → IfSome r Q
some_then P Q None p f = tt
some_then P Q (Some a) p f = f a p

pub on_err : {A E P : Type 0} (r : Result A E) → P → OnErr r P
on_err (Ok a) p = tt
on_err (Err x) p = p

pub pc_read : (bytes : List ℕ) (pc : ℕ) → 4 ≤ length bytes → ((i : ℕ) → get_or bytes i 0 < 256) → pc ≡ little_endian (take 4 bytes) → bytes
    ≡ low_bytes 4 pc ++ take (length bytes - 4) (drop 4 bytes)
pc_read bytes pc long each is =
    let small : All (λ b. b < 256) bytes = All-from_get_or (λ b. b < 256) bytes 0 (λ i h. each i) in
    let size : length (take 4 bytes) ≡ 4 = length-take-le 4 bytes long in
    let back : low_bytes 4 (little_endian (take 4 bytes)) ≡ take 4 bytes = ap (λ (n : ℕ). low_bytes n (little_endian (take 4 bytes)))
    (sym size) ∙ low_bytes-little_endian (take 4 bytes) (All-take (λ b. b < 256) 4 bytes small) in
    sym (take-append-drop 4 bytes) ∙ (ap (λ (l : List ℕ). l ++ drop 4 bytes) (sym back ∙ ap (low_bytes 4) (sym is)) ∙ ap
    (λ (l : List ℕ). low_bytes 4 pc ++ l) (sym (all_behind 4 bytes)))

pc_told : (x y : ℕ) (rest more : List ℕ) → x < 2 ^ 32 → y < 2 ^ 32 → low_bytes 4 x ++ rest ≡ low_bytes 4 y ++ more → (x ≡ y) × (rest ≡ more)
pc_told x y rest more h k e =
    let cut = same_fronts (low_bytes 4 x) (low_bytes 4 y) rest more (length-low_bytes 4 x ∙ sym (length-low_bytes 4 y)) e in
    (sym (little_endian-low_bytes 4 x h) ∙ (ap little_endian cut.0 ∙ little_endian-low_bytes 4 y k), cut.1)

-- ---- the parts, one after the other
regroup : (a b c d e f g more : List ℕ) → (a ++ b ++ c ++ d ++ e ++ f ++ g) ++ more ≡ a ++ (b ++ (c ++ (d ++ (e ++ (f ++ (g ++ more))))))
regroup a b c d e f g more = simp append_assoc

pub joined : (old a b c d e f g s t u v w x k : List ℕ) → s ≡ old ++ a → t ≡ s ++ b → u ≡ t ++ c → v ≡ u ++ d → w ≡ v ++ e → x ≡ w ++ f → k
    ≡ x ++ g → k ≡ old ++ (a ++ b ++ c ++ d ++ e ++ f ++ g)
joined old a b c d e f g s t u v w x k p q r y z h i =
    i ∙ (ap (λ (l : List ℕ). l ++ g) (h ∙ ap (λ (l : List ℕ). l ++ f)
    (z ∙ ap (λ (l : List ℕ). l ++ e) (y ∙ ap (λ (l : List ℕ). l ++ d)
    (r ∙ ap (λ (l : List ℕ). l ++ c) (q ∙ ap (λ (l : List ℕ). l ++ b) p))))) ∙ simp append_assoc)

context_on : Cpu → List ℕ → List ℕ
context_on cpu more = cpu.memory.context ++ (cpu.memory.packet ++ more)

held_on : Cpu → List ℕ → List ℕ
held_on cpu more = spans_saved cpu.held ++ context_on cpu more

frames_on : Cpu → List ℕ → List ℕ
frames_on cpu more = frames_saved cpu.memory.frames ++ held_on cpu more

drawn_on : Cpu → List ℕ → List ℕ
drawn_on cpu more = words_saved 0 (cpu.drawn ∷ []) ++ frames_on cpu more

registers_on : Cpu → List ℕ → List ℕ
registers_on cpu more = words_saved 0 cpu.registers ++ drawn_on cpu more

whole : (cpu : Cpu) (more : List ℕ) → cpu_saved cpu ++ more ≡ low_bytes 4 cpu.pc ++ registers_on cpu more
unfolding cpu_saved context_on held_on frames_on drawn_on registers_on
whole cpu more = regroup (low_bytes 4 cpu.pc) (words_saved 0 cpu.registers) (words_saved 0 (cpu.drawn ∷ []))
    (frames_saved cpu.memory.frames) (spans_saved cpu.held) cpu.memory.context cpu.memory.packet more

alone : (x : ℕ) → IsWord x → All IsWord (x ∷ [])
alone x h = All-push IsWord [] x (All-nil IsWord) h

module _ (cpu : Cpu) (more : List ℕ) (is : IsSavableState cpu) where
  after_pc : (bytes rest : List ℕ) (pc : ℕ) → pc < 2 ^ 32 → bytes ≡ low_bytes 4 pc ++ rest → bytes ≡ cpu_saved cpu ++ more → (pc ≡ cpu.pc) ×
      (rest ≡ registers_on cpu more)
  after_pc bytes rest pc near read e = pc_told pc cpu.pc rest (registers_on cpu more) near is.pc (sym read ∙ (e ∙ whole cpu more))

  after_registers : (rest behind registers : List ℕ) → length registers ≡ 11 → All IsWord registers → rest ≡ words_saved 0 registers ++
      behind → rest ≡ registers_on cpu more
      → (registers ≡ cpu.registers) × (behind ≡ drawn_on cpu more)
  unfolding registers_on
  after_registers rest behind registers size fit read e = words_prefix 0 registers cpu.registers behind (drawn_on cpu more)
      (size ∙ sym is.count) fit is.words (sym read ∙ e)

  after_drawn : (rest behind : List ℕ) (drawn : ℕ) → IsWord drawn → rest ≡ words_saved 0 (drawn ∷ []) ++ behind → rest ≡ drawn_on cpu more
      → (drawn ≡ cpu.drawn) × (behind ≡ frames_on cpu more)
  unfolding drawn_on
  after_drawn rest behind drawn fit read e =
      let told = words_prefix 0 (drawn ∷ []) (cpu.drawn ∷ []) behind (frames_on cpu more) refl (alone drawn fit) (alone cpu.drawn is.drawn) (sym read ∙ e) in
      let lists : drawn ∷ [] ≡ cpu.drawn ∷ [] = told.0 in
      (cc, told.1)

  after_frames : (rest behind : List ℕ) (frames : Stack) → IsSavable frames → rest ≡ frames_saved frames ++ behind → rest ≡ frames_on cpu more
      → (frames ≡ cpu.memory.frames) × (behind ≡ held_on cpu more)
  unfolding frames_on
  after_frames rest behind frames savable read e = frames_told frames cpu.memory.frames behind (held_on cpu more) savable is.frames (sym read ∙ e)

  after_held : (rest behind : List ℕ) (held : List Span) → AreSavable held → rest ≡ spans_saved held ++ behind → rest ≡ held_on cpu more
      → (held ≡ cpu.held) × (behind ≡ context_on cpu more)
  unfolding held_on
  after_held rest behind held savable read e = spans_told held cpu.held behind (context_on cpu more) savable is.held (sym read ∙ e)

-- no state has such a beginning, where none of its parts has
module _ (bytes : List ℕ) (cpu : Cpu) (more : List ℕ) (is : IsSavableState cpu) (e : bytes ≡ cpu_saved cpu ++ more) where
  pub none_short : length bytes < 4 → ⊥
  none_short short =
      let size = ap length (e ∙ whole cpu more) ∙ length-append (low_bytes 4 cpu.pc) (registers_on cpu more) in
      omega (arith, size, length-low_bytes 4 cpu.pc)

  module _ (pc : ℕ) (r1 : List ℕ) (near : pc < 2 ^ 32) (read1 : bytes ≡ low_bytes 4 pc ++ r1) where
    at1 : r1 ≡ registers_on cpu more
    at1 = (after_pc cpu more is bytes r1 pc near read1 e).1

    pub none_registers : ((others rest : List ℕ) → length others ≡ 11 → All IsWord others → r1 ≡ words_saved 0 others ++ rest → ⊥) → ⊥
    unfolding registers_on
    none_registers none = none cpu.registers (drawn_on cpu more) is.count is.words at1

    module _ (registers r2 : List ℕ) (size : length registers ≡ 11) (fit : All IsWord registers) (read2 : r1 ≡ words_saved 0 registers ++ r2) where
      at2 : r2 ≡ drawn_on cpu more
      at2 = (after_registers cpu more is r1 r2 registers size fit read2 at1).1

      pub none_drawn : ((other : ℕ) (rest : List ℕ) → IsWord other → r2 ≡ words_saved 0 (other ∷ []) ++ rest → ⊥) → ⊥
      unfolding drawn_on
      none_drawn none = none cpu.drawn (frames_on cpu more) is.drawn at2

      module _ (drawn : ℕ) (r3 : List ℕ) (word : IsWord drawn) (read3 : r2 ≡ words_saved 0 (drawn ∷ []) ++ r3) where
        at3 : r3 ≡ frames_on cpu more
        at3 = (after_drawn cpu more is r2 r3 drawn word read3 at2).1

        pub none_frames : ((other : Stack) (rest : List ℕ) → IsSavable other → r3 ≡ frames_saved other ++ rest → ⊥) → ⊥
        unfolding frames_on
        none_frames none = none cpu.memory.frames (held_on cpu more) is.frames at3

        module _ (frames : Stack) (r4 : List ℕ) (stack : IsSavable frames) (read4 : r3 ≡ frames_saved frames ++ r4) where
          at4 : r4 ≡ held_on cpu more
          at4 = (after_frames cpu more is r3 r4 frames stack read4 at3).1

          pub none_held : {P : List Span → Type 0} → P cpu.held → ((others : List Span) (rest : List ℕ) → P others → r4 ≡ spans_saved others ++ rest → ⊥) → ⊥
          unfolding held_on
          none_held may none = none cpu.held (context_on cpu more) may at4

          module _ (held : List Span) (r5 : List ℕ) (savable : AreSavable held) (read5 : r4 ≡ spans_saved held ++ r5) where
            at5 : r5 ≡ context_on cpu more
            at5 = (after_held cpu more is r4 r5 held savable read5 at4).1

            pub none_context : length r5 < length cpu.memory.context → ⊥
            unfolding context_on
            none_context short =
                let size = ap length at5 ∙ length-append cpu.memory.context (cpu.memory.packet ++ more) in
                omega (arith, size)

            pub none_packet : (context r6 : List ℕ) → length context ≡ length cpu.memory.context → r5 ≡ context ++ r6 → length r6 < length cpu.memory.packet → ⊥
            unfolding context_on
            none_packet context r6 size read6 short =
                let at6 = (same_fronts context cpu.memory.context r6 (cpu.memory.packet ++ more) size (sym read6 ∙ at5)).1 in
                let long = ap length at6 ∙ length-append cpu.memory.packet more in
                omega (arith, long)

pub all_read : (cpu : Cpu) (bytes r1 r2 r3 r4 r5 r6 r7 : List ℕ) → bytes ≡ low_bytes 4 cpu.pc ++ r1 → r1 ≡ words_saved 0 cpu.registers ++ r2
    → r2 ≡ words_saved 0 (cpu.drawn ∷ []) ++ r3
    → r3 ≡ frames_saved cpu.memory.frames ++ r4 → r4 ≡ spans_saved cpu.held ++ r5 → r5 ≡ cpu.memory.context ++ r6 → r6 ≡ cpu.memory.packet
    ++ r7 → bytes ≡ cpu_saved cpu ++ r7
unfolding context_on held_on frames_on drawn_on registers_on
all_read cpu bytes r1 r2 r3 r4 r5 r6 r7 a b c d e f g =
    a ∙ (ap (λ (l : List ℕ). low_bytes 4 cpu.pc ++ l) (b ∙ ap (λ (l : List ℕ). words_saved 0 cpu.registers ++ l)
    (c ∙ ap (λ (l : List ℕ). words_saved 0 (cpu.drawn ∷ []) ++ l)
    (d ∙ ap (λ (l : List ℕ). frames_saved cpu.memory.frames ++ l)
    (e ∙ ap (λ (l : List ℕ). spans_saved cpu.held ++ l) (f ∙ ap (λ (l : List ℕ). cpu.memory.context ++ l) g))))) ∙ sym (whole cpu r7))

-- equal bytes are those of equal states
pub cpus_told : (cpu other : Cpu) (rest more : List ℕ) → IsSavableState cpu → IsSavableState other → IsOfOneJob other cpu
    → cpu_saved cpu ++ rest ≡ cpu_saved other ++ more → (cpu ≡ other) × (rest ≡ more)
unfolding context_on held_on frames_on drawn_on registers_on
cpus_told cpu other rest more is k job e =
    let a = after_pc other more k (cpu_saved cpu ++ rest) (registers_on cpu rest) cpu.pc is.pc (whole cpu rest) e in
    let b = after_registers other more k (registers_on cpu rest) (drawn_on cpu rest) cpu.registers is.count is.words refl a.1 in
    let c = after_drawn other more k (drawn_on cpu rest) (frames_on cpu rest) cpu.drawn is.drawn refl b.1 in
    let d = after_frames other more k (frames_on cpu rest) (held_on cpu rest) cpu.memory.frames is.frames refl c.1 in
    let f = after_held other more k (held_on cpu rest) (context_on cpu rest) cpu.held is.held refl d.1 in
    let near = same_fronts cpu.memory.context other.memory.context (cpu.memory.packet ++ rest) (other.memory.packet ++ more) job.1 f.1 in
    let last = same_fronts cpu.memory.packet other.memory.packet rest more job.3 near.1 in
    let number = job.0 in
    let given = job.2 in (
      λ j. record {
        registers = b.0 j;
        number = number j;
        pc = a.0 j;
        memory = record
            { frames = d.0 j; context = near.0 j; packet = last.0 j };
        held = f.0 j;
        given = given j;
        drawn = c.0 j;
      },
      last.1,
    )
