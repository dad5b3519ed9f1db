-- The replies of `debug` to one input print one text.
use Rattle.std.proofs.Common.{◌≡◌, Bool, true, false, ℕ, List, [], ◌∷◌, ◌++◌, length, Option, option_map, Global, inl, inr, refl, sym, ap}
use Rattle.std.proofs.Common.{subst, ◌∙◌, Ok, Err, map}
use Rattle.std.specs.Prelude.{◌&&◌, Vec}
use Rattle.bpf_lines.specs.Lines.{lines_behind}
use Rattle.bpf_jobs.specs.Printed.{any_stopped}
use Rattle.bpf_file.specs.declared.error.FileError.TheVariants as FileError
use Rattle.bpf_file.specs.declared.error.Reason.{Reason}
use Rattle.bpf_file.specs.File.{File}
use Rattle.bpf_file.specs.Laws.{FilesAreDetermined, FilesCanRun}
use Rattle.bpf_file.specs.Programs.{text_of_lines}
use Rattle.bpf_file.specs.Reading.{IsRunFile}
use Rattle.bpf_debug.specs.Laws.{HadMemory, ScriptsAreDetermined}
use Rattle.bpf_debug.specs.Script.{Answer, RunsScript, answer_of}
use Rattle.bpf_debug.specs.Session.{Scene}
use Rattle.bpf_replies.specs.Answer.{script_status, shown_text, status_of, reply_text}
use Rattle.bpf_replies.specs.Laws.{IsOfInput}
use Rattle.bpf_replies.specs.Script.{AreShown, any_refused, ends_file, NoneEnds, IsCut, IsScriptOfFile, scene_of}
use Rattle.bpf_replies.specs.declared.refusal.Refusal.TheVariants as refusal
use Rattle.bpf_replies.specs.declared.reply.Reply.{Reply}
use Rattle.bpf_replies.specs.declared.reply.Reply.TheVariants as reply
use Rattle.bpf_replies.proofs.FreshFiles.{is_new}
use Rattle.bpf_replies.proofs.Shaped.{shaped}

-- ---- the line that ends the file is the first of its kind
never_ends : (line : List ℕ) → ends_file line ≡ false → ends_file line ≡ true → ⊥
never_ends line out is = let both : false ≡ true = sym out ∙ is in cc

one_end : (xs ys : List (List ℕ)) (x y : List ℕ) (cs ds : List (List ℕ)) → xs ++ x ∷ cs ≡ ys ++ y ∷ ds → NoneEnds xs → ends_file x ≡ true →
    NoneEnds ys → ends_file y ≡ true → (xs ≡ ys) × (cs ≡ ds)
one_end [] [] x y cs ds e a p b q = (refl, cc)
one_end [] (z ∷ ys) x y cs ds e a p b q = let same : x ≡ z = cc in absurd (never_ends z b.0 (subst (λ (l : List ℕ). ends_file l ≡ true) same p))
one_end (z ∷ xs) [] x y cs ds e a p b q = let same : z ≡ y = cc in absurd (never_ends z a.0 (subst (λ (l : List ℕ). ends_file l ≡ true) (sym same) q))
one_end (z ∷ xs) (t ∷ ys) x y cs ds e a p b q =
    let first : z ≡ t = cc in
    let rest : xs ++ x ∷ cs ≡ ys ++ y ∷ ds = cc in
    let one = one_end xs ys x y cs ds rest a.1 p b.1 q in
    (ap (λ (l : List ℕ). l ∷ xs) first ∙ ap (λ (ls : List (List ℕ)). t ∷ ls) one.0, one.1)

none_there : (xs : List (List ℕ)) (x : List ℕ) (cs : List (List ℕ)) → NoneEnds (xs ++ x ∷ cs) → ends_file x ≡ true → ⊥
none_there [] x cs none is = never_ends x none.0 is
none_there (z ∷ xs) x cs none is = none_there xs x cs none.1 is

one_cut : (input f g : List ℕ) (cs ds : List (List ℕ)) → IsCut input f cs → IsCut input g ds → (f ≡ g) × (cs ≡ ds)
one_cut input f g cs ds (inl a) (inl b) =
    let one = one_end a.0 b.0 a.1 b.1 cs ds (sym a.2 ∙ b.2) a.3 a.4 b.3 b.4 in
    (a.5 ∙ ap text_of_lines one.0 ∙ sym b.5, one.1)
one_cut input f g cs ds (inl a) (inr b) = absurd (none_there a.0 a.1 cs (subst NoneEnds a.2 b.0) a.4)
one_cut input f g cs ds (inr a) (inl b) = absurd (none_there b.0 b.1 ds (subst NoneEnds b.2 a.0) b.4)
one_cut input f g cs ds (inr a) (inr b) = (a.1 ∙ sym b.1, a.2 ∙ sym b.2)

-- ---- what a reply says of the input
data OfDebug (echo strict : Bool) (input : List ℕ) : Reply → Type 0 where
  Scripted : (answers : _) (lines : _) (stopped refused : Bool) → IsScriptOfFile echo strict input (reply.Script answers lines stopped refused)
      → HadMemory (map answer_of answers.items) → OfDebug echo strict input (reply.Script answers lines stopped refused)
  NoScript : (line : ℕ) (why : Reason) → IsScriptOfFile echo strict input (reply.Refused (refusal.File line why))
      → OfDebug echo strict input (reply.Refused (refusal.File line why))

of_debug : (echo strict : Bool) (input : List ℕ) (r : Reply) → IsScriptOfFile echo strict input r → IsOfInput r → OfDebug echo strict input r
of_debug echo strict input (reply.Script answers lines stopped refused) h n = Scripted answers lines stopped refused h n
of_debug echo strict input (reply.Refused refusal.OutOfMemory) h n = absurd (n tt)
of_debug echo strict input (reply.Refused (refusal.File line why)) h n = NoScript line why h
of_debug echo strict input (reply.Refused r) h n = absurd h
of_debug echo strict input (reply.Ended outcome) h n = absurd h
of_debug echo strict input (reply.Text text) h n = absurd h
of_debug echo strict input (reply.Jobs text stopped) h n = absurd h
of_debug echo strict input (reply.Counted text stopped stats) h n = absurd h
of_debug echo strict input (reply.Outcomes text stopped all) h n = absurd h
of_debug echo strict input (reply.NoOutcome text all) h n = absurd h
of_debug echo strict input (reply.Several text refused unmet told) h n = absurd h

-- of one list of commands one list of lines is shown
one_showing : (echo : Bool) (commands : List (List ℕ)) (xs ys : Option (Vec ℕ Global)) → AreShown echo commands xs → AreShown echo commands ys
    → lines_behind (option_map (λ (v : Vec ℕ Global). v.items) xs) ≡ lines_behind (option_map (λ (v : Vec ℕ Global). v.items) ys)
one_showing true commands xs ys a b = a ∙ sym b
one_showing false commands xs ys a b = ap (λ (o : Option (Vec ℕ Global)). lines_behind (option_map (λ (v : Vec ℕ Global). v.items) o)) (a ∙ sym b)

abbrev pub PrintsAs : Reply → Reply → Type 0
PrintsAs r s = (reply_text r ≡ reply_text s) × (status_of r ≡ status_of s)

module _ (files : FilesAreDetermined) (runs : FilesCanRun) (scripts : ScriptsAreDetermined) where
  -- a file isn't both read and refused
  not_both : (input file other : List ℕ) (cs ds : List (List ℕ)) (f : File) (line : ℕ) (why : Reason) → IsCut input file cs → IsRunFile file
      (Ok f) → IsCut input other ds → IsRunFile other (Err (FileError.Refused line why)) → ⊥
  not_both input file other cs ds f line why a said b refused =
      let one = one_cut input file other cs ds a b in
      let P : List ℕ → Type 0 = λ text. IsRunFile text (Err (FileError.Refused line why)) in
      let both : Ok f ≡ Err (FileError.Refused line why) = files file (Ok f) (Err (FileError.Refused line why)) said (subst P (sym one.0) refused) in
      cc

  one_reply : (echo strict : Bool) (input : List ℕ) (r s : Reply) → OfDebug echo strict input r → OfDebug echo strict input s → PrintsAs r s
  one_reply echo strict input r s (Scripted answers lines stopped refused a had) (Scripted others more halted denied b held) =
      let cut = one_cut input a.0 b.0 a.1 b.1 a.4 b.4 in
      let P : List ℕ → Type 0 = λ text. IsRunFile text (Ok b.2) in
      let both : Ok a.2 ≡ Ok b.2 = files a.0 (Ok a.2) (Ok b.2) a.5 (subst P (sym cut.0) b.5) in
      let file : a.2 ≡ b.2 = cc in
      let Q : List (List ℕ) → Type 0 = λ lines. RunsScript (scene_of b.2) lines (map answer_of others.items) b.3 in
      let R : File → Type 0 = λ f. RunsScript (scene_of f) a.1 (map answer_of others.items) b.3 in
      let new = is_new a.2 (shaped a.0 a.2 a.5) (runs a.0 a.2 a.5) in
      let one = scripts (scene_of a.2) a.3 b.3 a.1 (map answer_of answers.items) (map answer_of others.items) new new a.6
      (subst R (sym file) (subst Q (sym cut.1) b.6)) had held in
      let told : any_stopped (length a.3.world.jobs) a.3.world.jobs ≡ any_stopped (length b.3.world.jobs) b.3.world.jobs =
      ap (λ (y : Scene). any_stopped (length y.world.jobs) y.world.jobs) one.1 in
      let ended : stopped ≡ halted = a.8 ∙ told ∙ sym b.8 in
      let denies : refused ≡ denied = a.9 ∙ ap (λ (xs : List Answer). strict && any_refused xs) one.0 ∙ sym b.9 in
      let shown = one_showing echo a.1 lines more a.7 (subst (λ (cs : List (List ℕ)). AreShown echo cs more) (sym cut.1) b.7) in (
        ap (λ (ls : List (List ℕ)). shown_text ls (map answer_of answers.items)) shown
            ∙ ap (shown_text (lines_behind (option_map (λ (v : Vec ℕ Global). v.items) more))) one.0,
        ap (λ (x : Bool). script_status x refused) ended ∙ ap (script_status halted) denies,
      )
  one_reply echo strict input r s (Scripted answers lines stopped refused a had) (NoScript line why b) = absurd
      (not_both input a.0 b.0 a.1 b.1 a.2 line why a.4 a.5 b.2 b.3)
  one_reply echo strict input r s (NoScript line why b) (Scripted answers lines stopped refused a had) = absurd
      (not_both input a.0 b.0 a.1 b.1 a.2 line why a.4 a.5 b.2 b.3)
  one_reply echo strict input r s (NoScript line why a) (NoScript place reason b) =
      let cut = one_cut input a.0 b.0 a.1 b.1 a.2 b.2 in
      let P : List ℕ → Type 0 = λ text. IsRunFile text (Err (FileError.Refused place reason)) in
      let both = files a.0 (Err (FileError.Refused line why)) (Err (FileError.Refused place reason)) a.3 (subst P (sym cut.0) b.3) in
      let same : reply.Refused (refusal.File line why) ≡ reply.Refused (refusal.File place reason) = cc in
      (ap reply_text same, ap status_of same)

  pub one_debug : (echo strict : Bool) (input : List ℕ) (r s : Reply) → IsScriptOfFile echo strict input r → IsScriptOfFile echo strict
      input s → IsOfInput r → IsOfInput s → PrintsAs r s
  one_debug echo strict input r s a b n m = one_reply echo strict input r s (of_debug echo strict input r a n) (of_debug echo strict input s b m)
