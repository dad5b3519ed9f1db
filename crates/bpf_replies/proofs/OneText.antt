-- The replies of one command to one text print the same.
use Rattle.std.proofs.Common.{Bool, true, false, string_bytes, ◌≡◌, ◌≢◌, ◌≤◌, ℕ, List, length, inl, inr, refl, sym, ap, subst, ◌∙◌, Ok, Err, arith}
use Rattle.bpf_insn.specs.declared.instruction.Insn.{Insn}
use Rattle.bpf_insn.specs.Encoding.{IsEncodedAs}
use Rattle.bpf_insn.specs.Refusal.{IsRefused}
use Rattle.bpf_insn.specs.Laws.{WordsAreDetermined, EncodingsAreDetermined, RefusalsAreDetermined}
use Rattle.bpf_insn.specs.declared.error.InsnError.{InsnError}
use Rattle.bpf_insn.specs.declared.error.InsnError.TheVariants as insn_error
use Rattle.bpf_loader.specs.Loaded.{Loaded}
use Rattle.bpf_loader.specs.Sound.{IsFirstRefusal, IsSound}
use Rattle.bpf_loader.specs.Laws.{FirstIsDetermined}
use Rattle.bpf_loader.specs.declared.refusal.LoadError.{LoadError}
use Rattle.bpf_loader.specs.declared.refusal.LoadError.TheVariants as load_error
use Rattle.bpf_shared.specs.Shape.{IsShape}
use Rattle.bpf_shared.specs.declared.events.Event.{Event}
use Rattle.bpf_cpu.specs.declared.outcome.Outcome.{Outcome}
use Rattle.bpf_cpu.specs.declared.cpu.Cpu.{Cpu}
use Rattle.bpf_cpu.specs.Input.{of_bytes}
use Rattle.bpf_cpu.specs.State.{start}
use Rattle.bpf_cpu.specs.Step.{Explains}
use Rattle.bpf_cpu.specs.Laws.{OutcomesAreDetermined, NoMapsNoEvents}
use Rattle.bpf_text.specs.Assembly.{Assembles}
use Rattle.bpf_lines.specs.HexText.{IsHexOf}
use Rattle.bpf_text.specs.Laws.{TextsAreDetermined}
use Rattle.bpf_text.specs.declared.error.TextError.{TextError}
use Rattle.bpf_lines.specs.declared.hex_text.HexError.TheVariants as hex_error
use Rattle.bpf_text.specs.declared.error.TextError.TheVariants as text_error
use Rattle.bpf_file.specs.declared.error.FileError.TheVariants as FileError
use Rattle.bpf_file.specs.declared.error.Reason.{Reason}
use Rattle.bpf_file.specs.File.{File, shape_of}
use Rattle.bpf_file.specs.Reading.{IsRunFile}
use Rattle.bpf_file.specs.Laws.{FilesAreDetermined, FilesCanRun}
use Rattle.bpf_file.specs.Runnable.{CanRun}
use Rattle.bpf_jobs.specs.Laws.{ReportsByAreDetermined}
use Rattle.bpf_events.specs.Reports.{HistoriesAreDetermined}
use Rattle.bpf_debug.specs.Laws.{ScriptsAreDetermined}
use Rattle.bpf_replies.proofs.FreshFiles.{fresh_asked}
use Rattle.bpf_replies.proofs.Shaped.{shaped}
use Rattle.bpf_replies.proofs.OneDebug.{PrintsAs}
use Rattle.bpf_replies.specs.Answer.{jobs_status, status_of, reply_text}
use Rattle.bpf_replies.specs.Programs.{IsAssembled, IsAssembledRun, IsDisassembled, IsRun, IsWordsOf, RefusesAssembly, RefusesProgram}
use Rattle.bpf_replies.specs.Programs.{RefusesWords, ShowsWords, shown_program, no_names, bare_shape}
use Rattle.bpf_replies.specs.Running.{IsHistoryBy, IsOfFile, IsToldBy}
use Rattle.bpf_replies.specs.Script.{asked_world_of}
use Rattle.bpf_replies.specs.Laws.{IsOfInput, IsForAnyInput}
use Rattle.bpf_lines.specs.Lines.{lines_of}
use Rattle.bpf_disassembly.proofs.OneListing.{one_listing as one_listing_of}
use Rattle.bpf_replies.specs.declared.refusal.Refusal.{Refusal}
use Rattle.bpf_replies.specs.declared.refusal.Refusal.TheVariants as refusal
use Rattle.bpf_mem.specs.Limits.{max_context}
use Rattle.bpf_replies.specs.declared.reply.Reply.{Reply}
use Rattle.bpf_replies.specs.declared.reply.Status.TheVariants as status
use Rattle.bpf_replies.specs.declared.reply.Reply.TheVariants as reply

-- they print the same
pub prints : (r s : Reply) → r ≡ s → PrintsAs r s
prints r s e = (ap reply_text e, ap status_of e)

abbrev pub loaded : List Insn → Loaded
loaded is = record { instructions = is; named = no_names }

-- a run whose counter can't be worn is one whose counter may be
unworn : (program : Loaded) (budget : ℕ) (old : Cpu) (events : List Event) (outcome : Outcome) → Explains ⊥ bare_shape program budget old
    events outcome → Explains (Unit {0}) bare_shape program budget old events outcome
unworn program budget old events outcome (inl runs) = inl runs
unworn program budget old events outcome (inr worn) = absurd worn.2

-- ---- what each kind of reply says of the text

pub data OfWords (text : List ℕ) : Refusal → Type 0 where
  NoDigits : ((bytes : List ℕ) → ¬ IsHexOf text bytes) → OfWords text (refusal.Hex hex_error.NotHex)
  NoWords : (error : InsnError) (bytes : List ℕ) → IsHexOf text bytes → IsRefused error bytes → error ≢ insn_error.OutOfMemory → OfWords
      text (refusal.Insn error)

pub data OfRun (budget : ℕ) (context text : List ℕ) : Reply → Type 0 where
  Ran : (outcome : Outcome) (is : List Insn) (events : List Event) → IsWordsOf text is → IsSound no_names is
      → Explains ⊥ bare_shape (record { instructions = is; named = no_names }) budget (start 0 (of_bytes context)) events outcome → OfRun
      budget context text (reply.Ended outcome)
  Unsound : (error : LoadError) (is : List Insn) → IsWordsOf text is → IsFirstRefusal no_names is error → OfRun budget context text
      (reply.Refused (refusal.Load error))
  Unread : (r : Refusal) → OfWords text r → OfRun budget context text (reply.Refused r)

pub data OfAssembly (listing : Bool) (text : List ℕ) : Reply → Type 0 where
  Assembled : (printed : _) → IsAssembled listing text (reply.Text printed) → OfAssembly listing text (reply.Text printed)
  NoAssembly : (error : TextError) → Assembles text (Err error) → OfAssembly listing text (reply.Refused (refusal.Text error))

pub data OfListing (pc : Bool) (text : List ℕ) : Reply → Type 0 where
  Listed : (printed : _) → IsDisassembled pc text (reply.Text printed) → OfListing pc text (reply.Text printed)
  Unlisted : (r : Refusal) → OfWords text r → OfListing pc text (reply.Refused r)

of_insn : (text : List ℕ) (error : InsnError) → RefusesWords text (refusal.Insn error) → ¬ IsForAnyInput (refusal.Insn error) → OfWords text
    (refusal.Insn error)
of_insn text insn_error.OutOfMemory h n = absurd (n tt)
of_insn text error h n = NoWords error h.0 h.1 h.2 (λ e. cc)

of_words : (text : List ℕ) (r : Refusal) → RefusesWords text r → ¬ IsForAnyInput r → OfWords text r
of_words text (refusal.Hex hex_error.NotHex) h n = NoDigits h
of_words text (refusal.Hex hex_error.OutOfMemory) h n = absurd (n tt)
of_words text (refusal.Text text_error.OutOfMemory) h n = absurd (n tt)
of_words text (refusal.Insn error) h n = of_insn text error h n
of_words text _ h n = absurd h

of_program : (budget : ℕ) (context text : List ℕ) (r : Refusal) → RefusesProgram text r → ¬ IsForAnyInput r → OfRun budget context text (reply.Refused r)
of_program budget context text (refusal.Load load_error.OutOfMemory) h n = absurd (n tt)
of_program budget context text (refusal.Load error) h n = Unsound error h.0 h.1 (h.2 (λ e. cc))
of_program budget context text r h n = Unread r (of_words text r h n)

pub of_run : (budget : ℕ) (context text : List ℕ) (r : Reply) → IsRun budget context text r → IsOfInput r → OfRun budget context text r
of_run budget context text (reply.Ended outcome) h n = Ran outcome h.0 h.3 h.1 h.2 h.4
of_run budget context text (reply.Refused refusal.OutOfMemory) h n = absurd (n tt)
of_run budget context text (reply.Refused r) h n = of_program budget context text r h n
of_run budget context text (reply.Text printed) h n = absurd h
of_run budget context text (reply.Jobs printed stopped) h n = absurd h
of_run budget context text (reply.Counted printed stopped stats) h n = absurd h
of_run budget context text (reply.Script answers lines stopped refused) h n = absurd h
of_run budget context text (reply.Outcomes printed stopped all) h n = absurd h
of_run budget context text (reply.NoOutcome printed all) h n = absurd h
of_run budget context text (reply.Several printed refused unmet told) h n = absurd h

of_refused_text : (listing : Bool) (text : List ℕ) (error : TextError) → RefusesAssembly text (refusal.Text error) → ¬ IsForAnyInput
    (refusal.Text error) → OfAssembly listing text (reply.Refused (refusal.Text error))
of_refused_text listing text error (inl memory) n = absurd (n (subst (λ (e : TextError). IsForAnyInput (refusal.Text e)) (sym memory) tt))
of_refused_text listing text error (inr h) n = NoAssembly error h

pub of_assembly : (listing : Bool) (text : List ℕ) (r : Reply) → IsAssembled listing text r → IsOfInput r → OfAssembly listing text r
of_assembly listing text (reply.Text printed) h n = Assembled printed h
of_assembly listing text (reply.Refused (refusal.Text error)) h n = of_refused_text listing text error h n
of_assembly listing text (reply.Refused (refusal.Insn error)) h n = absurd (n (subst (λ (e : InsnError). IsForAnyInput (refusal.Insn e)) (sym h) tt))
of_assembly listing text (reply.Refused r) h n = absurd h
of_assembly listing text (reply.Ended outcome) h n = absurd h
of_assembly listing text (reply.Jobs printed stopped) h n = absurd h
of_assembly listing text (reply.Counted printed stopped stats) h n = absurd h
of_assembly listing text (reply.Script answers lines stopped refused) h n = absurd h
of_assembly listing text (reply.Outcomes printed stopped all) h n = absurd h
of_assembly listing text (reply.NoOutcome printed all) h n = absurd h
of_assembly listing text (reply.Several printed refused unmet told) h n = absurd h

refused_assembly : (text : List ℕ) (e : Refusal) → RefusesAssembly text e → IsOfInput (reply.Refused e) → OfAssembly false text (reply.Refused e)
refused_assembly text e h n = of_assembly false text (reply.Refused e) h n

not_both : status.Refused ≡ status.Done → ⊥
not_both e = cc

pub of_listing : (pc : Bool) (text : List ℕ) (r : Reply) → IsDisassembled pc text r → IsOfInput r → OfListing pc text r
of_listing pc text (reply.Text printed) h n = Listed printed h
of_listing pc text (reply.Refused r) h n = Unlisted r (of_words text r h n)
of_listing pc text (reply.Ended outcome) h n = absurd h
of_listing pc text (reply.Jobs printed stopped) h n = absurd h
of_listing pc text (reply.Counted printed stopped stats) h n = absurd h
of_listing pc text (reply.Script answers lines stopped refused) h n = absurd h
of_listing pc text (reply.Outcomes printed stopped all) h n = absurd h
of_listing pc text (reply.NoOutcome printed all) h n = absurd h
of_listing pc text (reply.Several printed refused unmet told) h n = absurd h

pub data OfFile (Told : File → List ℕ → Bool → Type 0) (text : List ℕ) : Reply → Type 0 where
  Told_of : (printed : _) (stopped : Bool) → IsOfFile Told text (reply.Jobs printed stopped)
      → OfFile Told text (reply.Jobs printed stopped)
  NoFile : (line : ℕ) (why : Reason) → IsRunFile text (Err (FileError.Refused line why))
      → OfFile Told text (reply.Refused (refusal.File line why))

of_refused_file : (Told : File → List ℕ → Bool → Type 0) (text : List ℕ) (r : Refusal)
    → IsOfFile Told text (reply.Refused r) → ¬ IsForAnyInput r → OfFile Told text (reply.Refused r)
of_refused_file Told text (refusal.File line why) h n = NoFile line why h
of_refused_file Told text refusal.OutOfMemory h n = absurd (n tt)
of_refused_file Told text _ h n = absurd h

of_file : (Told : File → List ℕ → Bool → Type 0) (text : List ℕ) (r : Reply) → IsOfFile Told text r → IsOfInput r
    → OfFile Told text r
of_file Told text (reply.Jobs printed stopped) h n = Told_of printed stopped h
of_file Told text (reply.Refused r) h n = of_refused_file Told text r h n
of_file Told text (reply.Ended outcome) h n = absurd h
of_file Told text (reply.Text printed) h n = absurd h
of_file Told text (reply.Counted printed stopped stats) h n = absurd h
of_file Told text (reply.Script answers lines stopped refused) h n = absurd h
of_file Told text (reply.Outcomes printed stopped all) h n = absurd h
of_file Told text (reply.NoOutcome printed all) h n = absurd h
of_file Told text (reply.Several printed refused unmet told) h n = absurd h

-- of a file that can run one text is printed
abbrev pub IsOne : (File → List ℕ → Bool → Type 0) → Type 0
IsOne Told = (f : File) → IsShape (shape_of f) → CanRun f → (p q : List ℕ) (x y : Bool) → Told f p x → Told f q y → (p ≡ q) × (x ≡ y)

-- words are shown in one way
one_showing : (listing : Bool) (text bytes p q : List ℕ) → ShowsWords listing text bytes p → ShowsWords listing text bytes q → p ≡ q
one_showing false text bytes p q a b = a ∙ sym b
one_showing true text bytes p q a b = one_listing_of 0 bytes (lines_of text) p q a b

module _ (words : WordsAreDetermined) (encodings : EncodingsAreDetermined) (refusals : RefusalsAreDetermined) (firsts : FirstIsDetermined)
    (texts : TextsAreDetermined) (outcomes : OutcomesAreDetermined) (events : NoMapsNoEvents) (files : FilesAreDetermined)
    (runs : FilesCanRun) (reports : ReportsByAreDetermined) (histories : HistoriesAreDetermined) (scripts : ScriptsAreDetermined) where
  same_bytes : (text xs ys : List ℕ) → IsHexOf text xs → IsHexOf text ys → xs ≡ ys
  same_bytes text xs ys a b = cc

  same_words : (text : List ℕ) (is js : List Insn) → IsWordsOf text is → IsWordsOf text js → is ≡ js
  same_words text is js a b =
      let bytes = same_bytes text b.0 a.0 b.1 a.1 in
      let P : List ℕ → Type 0 = λ bytes. IsEncodedAs js bytes in
      words a.0 is js a.3 (subst P bytes b.3)

  -- bytes that are refused are no instructions
  no_words : (text : List ℕ) (is : List Insn) (r : Refusal) → OfWords text r → IsWordsOf text is → ⊥
  no_words text is r (NoDigits none) a = none a.0 a.1
  no_words text is r (NoWords error bytes digits refused n) a =
      let P : List ℕ → Type 0 = λ bytes. IsRefused error bytes in
      refusals.1 a.0 is error n a.2 a.3 (subst P (same_bytes text bytes a.0 digits a.1) refused)

  one_refusal : (text : List ℕ) (r s : Refusal) → OfWords text r → OfWords text s → r ≡ s
  one_refusal text r s (NoDigits none) (NoDigits never) = refl
  one_refusal text r s (NoDigits none) (NoWords error bytes digits refused n) = absurd (none bytes digits)
  one_refusal text r s (NoWords error bytes digits refused n) (NoDigits none) = absurd (none bytes digits)
  one_refusal text r s (NoWords e xs a refused n) (NoWords f ys b denied m) =
      let P : List ℕ → Type 0 = λ bytes. IsRefused f bytes in
      ap refusal.Insn (refusals.0 xs e f n m refused (subst P (same_bytes text ys xs b a) denied))

  pub one_run : (budget : ℕ) (context text : List ℕ) (r s : Reply) → length context ≤ 4096 → OfRun budget context text r → OfRun budget context text s → r ≡ s
  one_run budget context text r s h (Ran x is es a sound runs) (Ran y js fs b safe goes) =
      let P : List Insn → Type 0 = λ is. Explains ⊥ bare_shape (loaded is) budget (start 0 (of_bytes context)) fs y in
      let other = subst P (same_words text js is b a) goes in
      let alone = events 1 (loaded is) budget 0 (of_bytes context) es x runs in
      let alone' = events 1 (loaded is) budget 0 (of_bytes context) fs y other in
      let Q : List Event → Type 0 = λ es. Explains ⊥ bare_shape (loaded is) budget (start 0 (of_bytes context)) es y in
      ap reply.Ended (outcomes bare_shape (loaded is) budget 0 (of_bytes context) es x y (h, omega arith)
      (unworn (loaded is) budget (start 0 (of_bytes context)) es x runs)
      (unworn (loaded is) budget (start 0 (of_bytes context)) es y (subst Q (alone' ∙ sym alone) other)))
  one_run budget context text r s h (Ran x is es a sound runs) (Unsound error js b first) =
      let P : List Insn → Type 0 = λ is. IsFirstRefusal no_names is error in
      absurd (firsts.1 no_names is error sound (subst P (same_words text js is b a) first))
  one_run budget context text r s h (Ran x is es a sound runs) (Unread e b) = absurd (no_words text is e b a)
  one_run budget context text r s h (Unsound error js b first) (Ran x is es a sound runs) =
      let P : List Insn → Type 0 = λ is. IsFirstRefusal no_names is error in
      absurd (firsts.1 no_names is error sound (subst P (same_words text js is b a) first))
  one_run budget context text r s h (Unsound e is a first) (Unsound f js b lowest) =
      let P : List Insn → Type 0 = λ is. IsFirstRefusal no_names is f in
      ap (λ error. reply.Refused (refusal.Load error)) (firsts.0 no_names is e f first (subst P (same_words text js is b a) lowest))
  one_run budget context text r s h (Unsound error is a first) (Unread e b) = absurd (no_words text is e b a)
  one_run budget context text r s h (Unread e b) (Ran x is es a sound runs) = absurd (no_words text is e b a)
  one_run budget context text r s h (Unread e b) (Unsound error is a first) = absurd (no_words text is e b a)
  one_run budget context text r s h (Unread e a) (Unread f b) = ap reply.Refused (one_refusal text e f a b)

  pub one_listing : (pc : Bool) (text : List ℕ) (r s : Reply) → OfListing pc text r → OfListing pc text s → PrintsAs r s
  one_listing pc text r s (Listed p a) (Listed q b) =
      let bytes = same_bytes text a.1.0 b.1.0 a.1.1 b.1.1 in
      (a.2 ∙ ap (λ bytes. shown_program pc bytes a.0) bytes ∙ ap (shown_program pc b.1.0) (same_words text a.0 b.0 a.1 b.1) ∙ sym b.2, refl)
  one_listing pc text r s (Listed p a) (Unlisted e b) = absurd (no_words text a.0 e b a.1)
  one_listing pc text r s (Unlisted e b) (Listed p a) = absurd (no_words text a.0 e b a.1)
  one_listing pc text r s (Unlisted e a) (Unlisted f b) = prints r s (ap reply.Refused (one_refusal text e f a b))

  pub one_assembly : (listing : Bool) (text : List ℕ) (r s : Reply) → OfAssembly listing text r → OfAssembly listing text s → PrintsAs r s
  one_assembly listing text r s (Assembled p a) (Assembled q b) =
      let both : Ok a.0 ≡ Ok b.0 = texts text (Ok a.0) (Ok b.0) a.2 b.2 in
      let same : a.0 ≡ b.0 = cc in
      let P : List Insn → Type 0 = λ is. IsEncodedAs is b.1 in
      let bytes = encodings a.0 a.1 b.1 a.3 b.3 a.4 (subst P (sym same) b.4) in
      let Q : List ℕ → Type 0 = λ bytes. ShowsWords listing text bytes (string_bytes q) in
      (one_showing listing text a.1 (string_bytes p) (string_bytes q) a.5 (subst Q (sym bytes) b.5), refl)
  one_assembly listing text r s (Assembled p a) (NoAssembly e b) = let both : Ok a.0 ≡ Err e = texts text (Ok a.0) (Err e) a.2 b in absurd cc
  one_assembly listing text r s (NoAssembly e b) (Assembled p a) = let both : Ok a.0 ≡ Err e = texts text (Ok a.0) (Err e) a.2 b in absurd cc
  one_assembly listing text r s (NoAssembly e a) (NoAssembly f b) =
      let both = texts text (Err e) (Err f) a b in let same : e ≡ f = cc in prints r s (ap (λ error. reply.Refused (refusal.Text error)) same)

  -- `asm` followed by `hex`
  pub one_assembled_run : (budget : ℕ) (context text : List ℕ) (r s : Reply) → length context ≤ max_context → IsAssembledRun budget context
      text r → IsAssembledRun budget context text s → IsOfInput r → IsOfInput s → PrintsAs r s
  one_assembled_run budget context text r s h (inl (e, same, a)) (inl (f, other, b)) n m =
      let first = refused_assembly text e a (subst IsOfInput same n) in
      let second = refused_assembly text f b (subst IsOfInput other m) in
      let both = one_assembly false text (reply.Refused e) (reply.Refused f) first second in
      (ap reply_text same ∙ both.0 ∙ sym (ap reply_text other), ap status_of same ∙ both.1 ∙ sym (ap status_of other))
  one_assembled_run budget context text r s h (inl (e, same, a)) (inr (q, b, run)) n m =
      absurd (not_both (one_assembly false text (reply.Refused e) (reply.Text q) (refused_assembly text e a (subst IsOfInput same n))
      (of_assembly false text (reply.Text q) b tt)).1)
  one_assembled_run budget context text r s h (inr (p, a, run)) (inl (f, other, b)) n m =
      absurd (not_both (sym (one_assembly false text (reply.Text p) (reply.Refused f) (of_assembly false text (reply.Text p) a tt)
      (refused_assembly text f b (subst IsOfInput other m))).1))
  one_assembled_run budget context text r s h (inr (p, a, run)) (inr (q, b, other)) n m =
      let same : string_bytes p ≡ string_bytes q = (one_assembly false text (reply.Text p) (reply.Text q)
      (of_assembly false text (reply.Text p) a tt) (of_assembly false text (reply.Text q) b tt)).0 in
      let P : List ℕ → Type 0 = λ bytes. IsRun budget context bytes s in
      let again = subst P (sym same) other in
      prints r s (one_run budget context (string_bytes p) r s h (of_run budget context (string_bytes p) r run n)
      (of_run budget context (string_bytes p) s again m))

  pub one_told : (by : List (ℕ × ℕ)) (keys maps : Bool) → IsOne (IsToldBy by keys maps)
  one_told by keys maps f shape can p q x y a b = reports (asked_world_of keys f) by f.names maps p q x y (fresh_asked keys f shape can) a b

  pub one_history : (by : List (ℕ × ℕ)) (keys maps : Bool) → IsOne (IsHistoryBy by keys maps)
  one_history by keys maps f shape can p q x y a b = histories (asked_world_of keys f) by f.names maps p q x y (fresh_asked keys f shape can) a b

  one_file : (Told : File → List ℕ → Bool → Type 0) → IsOne Told → (text : List ℕ) (r s : Reply) → OfFile Told text r → OfFile Told text s → PrintsAs r s
  one_file Told one text r s (Told_of p x a) (Told_of q y b) =
      let both : Ok a.0 ≡ Ok b.0 = files text (Ok a.0) (Ok b.0) a.1 b.1 in
      let same : a.0 ≡ b.0 = cc in
      let P : File → Type 0 = λ f. Told f (string_bytes q) y in
      let told = one a.0 (shaped text a.0 a.1) (runs text a.0 a.1) (string_bytes p) (string_bytes q) x y a.2 (subst P (sym same) b.2) in
      (told.0, ap jobs_status told.1)
  one_file Told one text r s (Told_of p x a) (NoFile line why b) =
      let both : Ok a.0 ≡ Err (FileError.Refused line why) = files text (Ok a.0) (Err (FileError.Refused line why)) a.1 b in absurd cc
  one_file Told one text r s (NoFile line why b) (Told_of p x a) =
      let both : Ok a.0 ≡ Err (FileError.Refused line why) = files text (Ok a.0) (Err (FileError.Refused line why)) a.1 b in absurd cc
  one_file Told one text r s (NoFile line why a) (NoFile place reason b) =
      let both = files text (Err (FileError.Refused line why)) (Err (FileError.Refused place reason)) a b in
      prints r s cc

  -- and so to all that is printed of a file
  pub one_of_file : (Told : File → List ℕ → Bool → Type 0) → IsOne Told → (text : List ℕ) (r s : Reply) → IsOfFile Told text r → IsOfFile
      Told text s → IsOfInput r → IsOfInput s → PrintsAs r s
  one_of_file Told one text r s a b n m = one_file Told one text r s (of_file Told text r a n) (of_file Told text s b m)
