-- What a question is answered is one text.
use Rattle.std.proofs.Common.{◌≡◌, ℕ, zero, suc, ◌+◌, ◌-◌, true, false, List, [], ◌∷◌, ◌++◌, length, get_or, Option, Some, None, inl, inr}
use Rattle.std.proofs.Common.{refl, sym, ap, subst, ◌∙◌, arith}
use Rattle.std.specs.Prelude.{codes, slice_get, slice_index}
use Rattle.std.proofs.lemmas.Bool.{cases_order}
use Rattle.std.proofs.lemmas.List.{ext_get_or}
use Rattle.hex.specs.Hex.{encode_lower}
use Rattle.bpf_shared.specs.declared.events.Span.{Span}
use Rattle.bpf_shared.specs.Sound.{IsSoundStore}
use Rattle.bpf_shared.specs.Store.{Plain}
use Rattle.bpf_shared.specs.Listing.{Pair}
use Rattle.bpf_shared.proofs.OneListing.{one_listing}
use Rattle.bpf_names.specs.Names.{Names}
use Rattle.bpf_cpu.specs.declared.cpu.Cpu.{Cpu}
use Rattle.bpf_cpu.specs.Task.{Task, InHand}
use Rattle.bpf_machine.specs.Hands.{IsAt, IsFree}
use Rattle.bpf_machine.specs.Work.{IsNext}
use Rattle.bpf_loader.specs.Laws.{OneInstructionBegins}
use Rattle.bpf_loader.specs.Loaded.{Loaded}
use Rattle.bpf_machine.proofs.DeterminedTurns.{IsWorld}
use Rattle.bpf_machine.specs.Schedule.{World}
use Rattle.bpf_debug.specs.Answer.{IsWhere, IsOff, IsRegisters, in_hand_line, waiting_line, register_lines}
use Rattle.bpf_debug.specs.Go.{StandsAt}
use Rattle.bpf_debug.specs.Recall.{IsStandText, Past}
use Rattle.bpf_debug.specs.Show.{AreShownLines, IsBefore, IsShownLine, IsShownText, IsWordsIn, changed_text, place_words, shown_line, value_at}
use Rattle.bpf_debug.specs.Nearby.{IsLineAt, IsNearbyText, TellsLines, count_shown, first_shown, nearby_line}
use Rattle.bpf_debug.specs.Held.{IsHeldLine, IsHeldText, IsPlace, IsValueName, TellsHeld, held_line, span_of, value_name}
use Rattle.bpf_debug.specs.Laws.{KeysHaveOwnValues}
use Rattle.bpf_debug.specs.Read.{MayRead, MayNotRead, AreBytesAt, IsUnreadable, ShowsBytes, IsMemoryText, IsNamed, IsMapText, IsTableText}
use Rattle.bpf_debug.specs.Read.{IsKeysText, AreKeysOf, array_named, indices_text, pair_lines, key_lines, values_text}
use Rattle.bpf_debug.proofs.OwnValues.{one_key}

-- ---- where a CPU is

-- the job that waits next is one
pub one_next : (jobs : List Task) (c j k : ℕ) → IsNext jobs c j → IsNext jobs c k → j ≡ k
one_next jobs c j k a b = elim (cases_order j k) [
  | inl e ↦ e
  | inr rest ↦ elim rest [
    | inl below ↦ absurd (b.2 j a.1.0 a.1.1 below a.1.2)
    | inr above ↦ absurd (a.2 k b.1.0 b.1.1 above b.1.2)
  ]
]

pub off_free : (jobs : List Task) (c : ℕ) (text : List ℕ) → IsOff jobs c text → IsFree jobs c
off_free jobs c text (inl a) = a.1.0
off_free jobs c text (inr a) = a.0

pub one_off : (jobs : List Task) (c : ℕ) (text other : List ℕ) → IsOff jobs c text → IsOff jobs c other → text ≡ other
one_off jobs c text other (inl a) (inl b) = a.2 ∙ ap (waiting_line c) (one_next jobs c a.0 b.0 a.1 b.1) ∙ sym b.2
one_off jobs c text other (inl a) (inr b) = absurd (b.1 a.0 a.1.1.0 a.1.1.1 a.1.1.2)
one_off jobs c text other (inr a) (inl b) = absurd (a.1 b.0 b.1.1.0 b.1.1.1 b.1.1.2)
one_off jobs c text other (inr a) (inr b) = a.2 ∙ sym b.2

-- ---- bytes
one_read : (s : Plain) (state : Cpu) (a b other : ℕ) → MayRead s state a b → MayRead s state a other → b ≡ other
one_read s state a b other (inl own) (inl own') = let both : Some b ≡ Some other = sym own ∙ own' in cc
one_read s state a b other (inl own) (inr held) = let both : Some b ≡ None = sym own ∙ held.0 in cc
one_read s state a b other (inr held) (inl own) = let both : Some other ≡ None = sym own ∙ held.0 in cc
one_read s state a b other (inr held) (inr held') = held'.2.1 b held.2.0

not_both : (s : Plain) (state : Cpu) (a b : ℕ) → MayRead s state a b → MayNotRead s state a → ⊥
not_both s state a b (inl own) none = let both : Some b ≡ None = sym own ∙ none.0 in cc
not_both s state a b (inr held) (own, inl out) = out held.1
not_both s state a b (inr held) (own, inr none) = none b held.2.0

unreadable_not : (s : Plain) (state : Cpu) (a n : ℕ) (bytes : List ℕ) → AreBytesAt s state a n bytes → IsUnreadable s state a n → ⊥
unreadable_not s state a n bytes are (inl past) = absurd (omega (arith, are.within))
unreadable_not s state a n bytes are (inr none) = not_both s state (a + none.0) (slice_index bytes none.0) (are.each none.0 none.1) none.2

one_bytes : (s : Plain) (state : Cpu) (a n : ℕ) (bytes others : List ℕ) → AreBytesAt s state a n bytes → AreBytesAt s state a n others → bytes ≡ others
one_bytes s state a n bytes others x y =
    ext_get_or 0 bytes others (x.count ∙ sym y.count) (λ k inside.
    one_read s state (a + k) (get_or bytes k 0) (get_or others k 0) (x.each k (omega (arith, x.count))) (y.each k (omega (arith, x.count))))

one_shown : (s : Plain) (state : Cpu) (at : Option ℕ) (n : ℕ) (text other : List ℕ) → ShowsBytes s state at n text → ShowsBytes s state at n
    other → text ≡ other
one_shown s state None n text other a b = a ∙ sym b
one_shown s state (Some at) n text other (inl a) (inl b) =
    a.2 ∙ ap (λ (bytes : List ℕ). encode_lower bytes ++ codes "\n") (one_bytes s state at n a.0 b.0 a.1 b.1) ∙ sym b.2
one_shown s state (Some at) n text other (inl a) (inr b) = absurd (unreadable_not s state at n a.0 a.1 b.0)
one_shown s state (Some at) n text other (inr a) (inl b) = absurd (unreadable_not s state at n b.0 b.1 a.0)
one_shown s state (Some at) n text other (inr a) (inr b) = a.1 ∙ sym b.1

-- ---- values by name
module _ (s : Plain) (sound : IsSoundStore s) (own : KeysHaveOwnValues s) where
  one_place_text : (at : ℕ) (text other : List ℕ) → IsPlace s at text → IsPlace s at other → text ≡ other
  one_place_text at text other (inl a) (inl b) = a.2 ∙ ap encode_lower (one_key s sound own at a.0 b.0 a.1 b.1) ∙ sym b.2
  one_place_text at text other (inl a) (inr b) = absurd (b.0 a.0 a.1)
  one_place_text at text other (inr a) (inl b) = absurd (a.0 b.0 b.1)
  one_place_text at text other (inr a) (inr b) = a.1 ∙ sym b.1

  one_value_name : (names : List (List ℕ)) (at : ℕ) (name other : List ℕ) → IsValueName names s at name → IsValueName names s at other → name ≡ other
  one_value_name names at name other a b = a.2 ∙ ap (value_name names at) (one_place_text at a.0 b.0 a.1 b.1) ∙ sym b.2

  one_held_line : (names : List (List ℕ)) (state : Cpu) (p : Span) (line other : List ℕ) → IsHeldLine names s state p line → IsHeldLine
      names s state p other → line ≡ other
  one_held_line names state p line other a b =
      a.4 ∙ ap (λ (t : List ℕ). held_line t p.at a.1) (one_value_name names p.at a.0 b.0 a.2 b.2)
      ∙ ap (held_line b.0 p.at) (one_shown s state (Some p.at) p.size a.1 b.1 a.3 b.3) ∙ sym b.4

  one_held_lines : (names : List (List ℕ)) (state : Cpu) (n : ℕ) (text other : List ℕ) → TellsHeld names s state n text → TellsHeld names s
      state n other → text ≡ other
  one_held_lines names state zero text other a b = a ∙ sym b
  one_held_lines names state (suc n) text other a b =
      let before = one_held_lines names state n a.0 b.0 a.2 b.2 in
      let line = one_held_line names state (span_of state.held n) a.1 b.1 a.3 b.3 in
      a.4 ∙ ap (λ (t : List ℕ). t ++ a.1) before ∙ ap (λ (t : List ℕ). b.0 ++ t) line ∙ sym b.4

  one_words : (names : Names) (n : ℕ) (found : Option Span) (text other : List ℕ) → IsWordsIn names s n found text → IsWordsIn names s n
      found other → text ≡ other
  one_words names n None text other a b = a ∙ sym b
  one_words names n (Some p) text other a b =
      a.2 ∙ ap (λ (t : List ℕ). place_words t (n - p.at)) (one_value_name names.maps p.at a.0 b.0 a.1 b.1) ∙ sym b.2

  one_shown_line : (names : Names) (held : List Span) (k n : ℕ) (line other : List ℕ) → IsShownLine names s held k n line → IsShownLine
      names s held k n other → line ≡ other
  one_shown_line names held k n line other a b =
      a.2 ∙ ap (shown_line k n) (one_words names n (value_at held n) a.0 b.0 a.1 b.1) ∙ sym b.2

  pub one_shown_lines : (names : Names) (held : List Span) (k : ℕ) (ns : List ℕ) (lines others : List (List ℕ)) → AreShownLines names s held
      k ns lines → AreShownLines names s held k ns others
      → lines ≡ others
  one_shown_lines names held k [] [] [] a b = refl
  one_shown_lines names held k [] [] (m ∷ ms) a b = absurd b
  one_shown_lines names held k [] (l ∷ ls) others a b = absurd a
  one_shown_lines names held k (n ∷ ns) [] others a b = absurd a
  one_shown_lines names held k (n ∷ ns) (l ∷ ls) [] a b = absurd b
  one_shown_lines names held k (n ∷ ns) (l ∷ ls) (m ∷ ms) a b =
      ap (λ (t : List ℕ). t ∷ ls) (one_shown_line names held k n l m a.0 b.0)
      ∙ ap (λ (ts : List (List ℕ)). m ∷ ts) (one_shown_lines names held (suc k) ns ls ms a.1 b.1)

-- ---- instructions
one_line_at : OneInstructionBegins → (program : Loaded) (here pc : ℕ) (text other : List ℕ) → IsLineAt program here pc text → IsLineAt
    program here pc other → text ≡ other
one_line_at begins program here pc text other (inl a) (inl b) =
    a.2 ∙ ap (nearby_line here pc) (begins program.instructions pc a.0 b.0 a.1 b.1) ∙ sym b.2
one_line_at begins program here pc text other (inl a) (inr b) = absurd (b.0 (a.0, a.1))
one_line_at begins program here pc text other (inr a) (inl b) = absurd (a.0 (b.0, b.1))
one_line_at begins program here pc text other (inr a) (inr b) = a.1 ∙ sym b.1

one_program_lines : OneInstructionBegins → (program : Loaded) (here first n : ℕ) (text other : List ℕ) → TellsLines program here first n
    text → TellsLines program here first n other → text ≡ other
one_program_lines begins program here first zero text other a b = a ∙ sym b
one_program_lines begins program here first (suc n) text other a b =
    let before = one_program_lines begins program here first n a.0 b.0 a.2 b.2 in
    let line = one_line_at begins program here (first + n) a.1 b.1 a.3 b.3 in
    a.4 ∙ ap (λ (t : List ℕ). t ++ a.1) before ∙ ap (λ (t : List ℕ). b.0 ++ t) line ∙ sym b.4

-- ---- of a machine's CPUs
module _ (w : World) (world : IsWorld w) where
  -- one job is in hand, in one state
  pub record OneHand (j k : ℕ) (state now : Cpu) : Type 0 where
    pub job : j ≡ k
    pub states : state ≡ now

  pub one_hand : (c j k : ℕ) (task other : Task) (state now : Cpu) (left rest : ℕ) → IsAt w.jobs c j task (InHand state left) → IsAt w.jobs
      c k other (InHand now rest) → OneHand j k state now
  one_hand c j k task other state now left rest a b =
      let job = world.one c j k task other state now left rest a b in
      let P : ℕ → Type 0 = λ i. slice_get w.jobs i ≡ Some other in
      let listed : Some task ≡ Some other = sym a.listed ∙ subst P (sym job) b.listed in
      let same : task ≡ other = cc in
      let stages : InHand state left ≡ InHand now rest = sym a.at ∙ ap (λ (t : Task). t.stage) same ∙ b.at in
      record { job = job; states = cc }

  pub one_place : (c p q : ℕ) → StandsAt w.jobs c p → StandsAt w.jobs c q → p ≡ q
  one_place c p q (inl a) (inl b) =
      let one = one_hand c a.0 b.0 a.1 b.1 a.2 b.2 a.3 b.3 a.4 b.4 in
      a.5 ∙ ap (λ (s : Cpu). s.pc) one.states ∙ sym b.5
  one_place c p q (inl a) (inr b) = absurd (b.1.0 a.0 a.1 a.2 a.3 a.4)
  one_place c p q (inr a) (inl b) = absurd (a.1.0 b.0 b.1 b.2 b.3 b.4)
  one_place c p q (inr a) (inr b) = a.2 ∙ sym b.2

  pub one_where : (c : ℕ) (text other : List ℕ) → IsWhere w.jobs c text → IsWhere w.jobs c other → text ≡ other
  one_where c text other (inl a) (inl b) =
      let one = one_hand c a.0 b.0 a.1 b.1 a.2 b.2 a.3 b.3 a.4 b.4 in
      a.5 ∙ ap (λ (j : ℕ). in_hand_line c j a.2) one.job ∙ ap (in_hand_line c b.0) one.states ∙ sym b.5
  one_where c text other (inl a) (inr b) = absurd (off_free w.jobs c other b a.0 a.1 a.2 a.3 a.4)
  one_where c text other (inr a) (inl b) = absurd (off_free w.jobs c text a b.0 b.1 b.2 b.3 b.4)
  one_where c text other (inr a) (inr b) = one_off w.jobs c text other a b

  pub one_registers : (c : ℕ) (text other : List ℕ) → IsRegisters w.jobs c text → IsRegisters w.jobs c other → text ≡ other
  one_registers c text other (inl a) (inl b) =
      let one = one_hand c a.0 b.0 a.1 b.1 a.2 b.2 a.3 b.3 a.4 b.4 in
      a.5 ∙ ap (λ (s : Cpu). register_lines 0 s.registers) one.states ∙ sym b.5
  one_registers c text other (inl a) (inr b) = absurd (off_free w.jobs c other b a.0 a.1 a.2 a.3 a.4)
  one_registers c text other (inr a) (inl b) = absurd (off_free w.jobs c text a b.0 b.1 b.2 b.3 b.4)
  one_registers c text other (inr a) (inr b) = one_off w.jobs c text other a b

  pub one_stand_text : (c : ℕ) (text other : List ℕ) → IsStandText w.jobs c text → IsStandText w.jobs c other → text ≡ other
  one_stand_text c text other (inl a) (inl b) =
      let one = one_hand c a.0 b.0 a.1 b.1 a.2 b.2 a.3 b.3 a.4 b.4 in
      a.5 ∙ ap (λ (j : ℕ). in_hand_line c j a.2 ++ register_lines 0 a.2.registers) one.job
      ∙ ap (λ (s : Cpu). in_hand_line c b.0 s ++ register_lines 0 s.registers) one.states ∙ sym b.5
  one_stand_text c text other (inl a) (inr b) = absurd (off_free w.jobs c other b a.0 a.1 a.2 a.3 a.4)
  one_stand_text c text other (inr a) (inl b) = absurd (off_free w.jobs c text a b.0 b.1 b.2 b.3 b.4)
  one_stand_text c text other (inr a) (inr b) = one_off w.jobs c text other a b

  pub one_memory : (c : ℕ) (at : Option ℕ) (n : ℕ) (text other : List ℕ) → IsMemoryText w.store w.jobs c at n text → IsMemoryText w.store
      w.jobs c at n other → text ≡ other
  one_memory c at n text other (inl a) (inl b) =
      let one = one_hand c a.0 b.0 a.1 b.1 a.2 b.2 a.3 b.3 a.4 b.4 in
      let P : Cpu → Type 0 = λ s. ShowsBytes w.store s at n other in
      one_shown w.store a.2 at n text other a.5 (subst P (sym one.states) b.5)
  one_memory c at n text other (inl a) (inr b) = absurd (off_free w.jobs c other b a.0 a.1 a.2 a.3 a.4)
  one_memory c at n text other (inr a) (inl b) = absurd (off_free w.jobs c text a b.0 b.1 b.2 b.3 b.4)
  one_memory c at n text other (inr a) (inr b) = one_off w.jobs c text other a b

  pub one_held_text : KeysHaveOwnValues w.store → (names : List (List ℕ)) (c : ℕ) (text other : List ℕ) → IsHeldText names w.store w.jobs c
      text → IsHeldText names w.store w.jobs c other → text ≡ other
  one_held_text own names c text other (inl a) (inl b) =
      let one = one_hand c a.0 b.0 a.1 b.1 a.2 b.2 a.3 b.3 a.4 b.4 in
      let P : Cpu → Type 0 = λ s. TellsHeld names w.store s (length s.held) other in
      one_held_lines w.store world.store own names a.2 (length a.2.held) text other a.5 (subst P (sym one.states) b.5)
  one_held_text own names c text other (inl a) (inr b) = absurd (off_free w.jobs c other b a.0 a.1 a.2 a.3 a.4)
  one_held_text own names c text other (inr a) (inl b) = absurd (off_free w.jobs c text a b.0 b.1 b.2 b.3 b.4)
  one_held_text own names c text other (inr a) (inr b) = one_off w.jobs c text other a b

  one_task : (c j k : ℕ) (task other : Task) (state now : Cpu) (left rest : ℕ) → IsAt w.jobs c j task (InHand state left) → IsAt w.jobs c k
      other (InHand now rest) → task ≡ other
  one_task c j k task other state now left rest a b =
      let P : ℕ → Type 0 = λ i. slice_get w.jobs i ≡ Some other in
      let listed : Some task ≡ Some other = sym a.listed ∙ subst P (sym (world.one c j k task other state now left rest a b)) b.listed in cc

  pub one_nearby : OneInstructionBegins → (c : ℕ) (text other : List ℕ) → IsNearbyText w.programs w.jobs c text → IsNearbyText w.programs
      w.jobs c other → text ≡ other
  one_nearby begins c text other (inl a) (inl b) =
      let one = one_hand c a.0 b.0 a.1 b.1 a.2 b.2 a.3 b.3 a.5 b.5 in
      let tasks : a.1 ≡ b.1 = one_task c a.0 b.0 a.1 b.1 a.2 b.2 a.3 b.3 a.5 b.5 in
      let loaded : Some a.4 ≡ Some b.4 = sym a.6 ∙ ap (λ (t : Task). slice_get w.programs t.program) tasks ∙ b.6 in
      let programs : a.4 ≡ b.4 = cc in
      let P : Cpu → Type 0 = λ s. TellsLines b.4 s.pc (first_shown s.pc) (count_shown s.pc) other in
      let Q : Loaded → Type 0 = λ p. TellsLines p a.2.pc (first_shown a.2.pc) (count_shown a.2.pc) other in
      one_program_lines begins a.4 a.2.pc (first_shown a.2.pc) (count_shown a.2.pc) text other a.7 (subst Q (sym programs) (subst P (sym one.states) b.7))
  one_nearby begins c text other (inl a) (inr b) = absurd (off_free w.jobs c other b a.0 a.1 a.2 a.3 a.5)
  one_nearby begins c text other (inr a) (inl b) = absurd (off_free w.jobs c text a b.0 b.1 b.2 b.3 b.5)
  one_nearby begins c text other (inr a) (inr b) = one_off w.jobs c text other a b

-- ---- before a turn
abbrev pub IsSoundPast : Option Past → Type 0
IsSoundPast None = Unit {0}
IsSoundPast (Some past) = IsWorld past.before

one_before : (c : ℕ) (past : Option Past) (before other : List ℕ) → IsSoundPast past → IsBefore c past before → IsBefore c past other → before ≡ other
one_before c None before other sound a b = a ∙ sym b
one_before c (Some past) before other sound (inl a) (inl b) =
    let one = one_hand past.before sound c a.0 b.0 a.1 b.1 a.2 b.2 a.3 b.3 a.4 b.4 in
    a.5 ∙ ap (λ (s : Cpu). s.registers) one.states ∙ sym b.5
one_before c (Some past) before other sound (inl a) (inr b) = absurd (b.0 a.0 a.1 a.2 a.3 a.4)
one_before c (Some past) before other sound (inr a) (inl b) = absurd (a.0 b.0 b.1 b.2 b.3 b.4)
one_before c (Some past) before other sound (inr a) (inr b) = a.1 ∙ sym b.1

pub one_shown_text : (w : World) → IsWorld w → KeysHaveOwnValues w.store → (c : ℕ) (names : Names) (past : Option Past) (text other : List ℕ) → IsSoundPast past
    → IsShownText c names past w text → IsShownText c names past w other → text ≡ other
one_shown_text w world own c names past text other sound a b =
    let one = one_hand w world c a.0 b.0 a.1 b.1 a.2 b.2 a.3 b.3 a.6 b.6 in
    let befores : a.4 ≡ b.4 = one_before c past a.4 b.4 sound a.7 b.7 in
    let P : Cpu → Type 0 = λ s. AreShownLines names w.store s.held 0 s.registers b.5 in
    let lines : a.5 ≡ b.5 = one_shown_lines w.store world.store own names a.2.held 0 a.2.registers a.5 b.5 a.8 (subst P (sym one.states) b.8) in
    a.9 ∙ ap (λ (bs : List ℕ). changed_text bs 0 a.2.registers a.5) befores ∙ ap (λ (s : Cpu). changed_text b.4 0 s.registers a.5) one.states
    ∙ ap (λ (ls : List (List ℕ)). changed_text b.4 0 b.2.registers ls) lines ∙ sym b.9

-- ---- maps
pub one_name : (names : List (List ℕ)) (name : List ℕ) (m n : ℕ) → IsNamed names name m → IsNamed names name n → m ≡ n
one_name names name m n a b = elim (cases_order m n) [
  | inl e ↦ e
  | inr rest ↦ elim rest [ inl below ↦ absurd (b.1 m below a.0) | inr above ↦ absurd (a.1 n above b.0) ]
]

pub one_map : (s : Plain) (m : ℕ) (text other : List ℕ) → IsMapText s m text → IsMapText s m other → text ≡ other
one_map s m text other a b = a.2 ∙ ap (λ (pairs : List Pair). pair_lines (length pairs) pairs) (one_listing s m a.0 b.0 a.1 b.1) ∙ sym b.2

-- one number is a map's or an array's
pub one_table : (s : Plain) (names : List (List ℕ)) (m : ℕ) (text other : List ℕ) → IsTableText s names m text → IsTableText s names m other → text ≡ other
one_table s names m text other (inl a) (inl b) = one_map s m text other a.1 b.1
one_table s names m text other (inl a) (inr b) = let less = a.0 in let is = b.1 in absurd (omega arith)
one_table s names m text other (inr a) (inl b) = let less = b.0 in let is = a.1 in absurd (omega arith)
one_table s names m text other (inr a) (inr b) =
    let maps = length s.shape.maps in
    let one = a.1 in
    let two = b.1 in
    let same : a.0 ≡ b.0 = omega arith in
    a.2 ∙ ap (λ (k : ℕ). values_text s (array_named names maps k) (slice_get s.shape.arrays k)) same ∙ sym b.2

one_keys : (s : Plain) (m : ℕ) (text other : List ℕ) → IsKeysText s m text → IsKeysText s m other → text ≡ other
one_keys s m text other a b = a.2 ∙ ap (λ (pairs : List Pair). key_lines (length pairs) pairs) (one_listing s m a.0 b.0 a.1 b.1) ∙ sym b.2

pub one_table_keys : (s : Plain) (m : ℕ) (text other : List ℕ) → AreKeysOf s m text → AreKeysOf s m other → text ≡ other
one_table_keys s m text other (inl a) (inl b) = one_keys s m text other a.1 b.1
one_table_keys s m text other (inl a) (inr b) = let less = a.0 in let is = b.1 in absurd (omega arith)
one_table_keys s m text other (inr a) (inl b) = let less = b.0 in let is = a.1 in absurd (omega arith)
one_table_keys s m text other (inr a) (inr b) =
    let one = a.1 in
    let two = b.1 in
    let same : a.0 ≡ b.0 = omega arith in
    a.2 ∙ ap (λ (k : ℕ). indices_text (slice_get s.shape.arrays k)) same ∙ sym b.2
