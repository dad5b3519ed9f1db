-- The replies of `run --check` to one input print one text.
use Rattle.std.proofs.Common.{◌≡◌, ◌∙◌, ◌++◌, ◌+◌, [], ℕ, Bool, true, List, Global, String, Some, None, Ok, Err, refl, sym, ap, subst}
use Rattle.bpf_jobs.specs.Laws.{ReportsByAreDetermined}
use Rattle.bpf_check.specs.Expectation.{Expected, expectations_of, first_amiss, left_of}
use Rattle.bpf_check.specs.Listing.{left_text}
use Rattle.bpf_check.specs.Single.{is_any_refuted, judged_text}
use Rattle.bpf_file.specs.declared.error.FileError.TheVariants as FileError
use Rattle.bpf_file.specs.declared.error.Reason.{Reason}
use Rattle.bpf_file.specs.File.{File}
use Rattle.bpf_file.specs.Laws.{FilesAreDetermined, FilesCanRun}
use Rattle.bpf_file.specs.Reading.{IsRunFile}
use Rattle.bpf_replies.proofs.FreshFiles.{fresh_asked}
use Rattle.bpf_replies.proofs.Shaped.{shaped}
use Rattle.bpf_replies.proofs.OneDebug.{PrintsAs}
use Rattle.bpf_replies.specs.Answer.{jobs_status, status_of, reply_text}
use Rattle.bpf_replies.specs.Comments.{RefusesComments, for_run, subjects_of}
use Rattle.bpf_replies.specs.Judging.{IsJudgedOfFile}
use Rattle.bpf_replies.specs.Running.{IsToldBy}
use Rattle.bpf_replies.specs.Laws.{IsForAnyInput, IsOfInput}
use Rattle.bpf_replies.specs.Script.{asked_world_of}
use Rattle.bpf_replies.specs.declared.refusal.Refusal.{Refusal}
use Rattle.bpf_replies.specs.declared.refusal.Refusal.TheVariants as refusal
use Rattle.bpf_replies.specs.declared.reply.Reply.{Reply}
use Rattle.bpf_replies.specs.declared.reply.Reply.TheVariants as reply

data OfJudged (by : List (ℕ × ℕ)) (keys : Bool) (text : List ℕ) : Reply → Type 0 where
  Judged_of : (printed : String Global) (refuted : Bool) → IsJudgedOfFile by keys text (reply.Jobs printed refuted)
      → OfJudged by keys text (reply.Jobs printed refuted)
  NoFile : (line : ℕ) (why : Reason) → IsRunFile text (Err (FileError.Refused line why))
      → OfJudged by keys text (reply.Refused (refusal.File line why))
  Amiss : (line : ℕ) → RefusesComments (for_run keys) text (refusal.Comment line)
      → OfJudged by keys text (reply.Refused (refusal.Comment line))

of_refused : (by : List (ℕ × ℕ)) (keys : Bool) (text : List ℕ) (r : Refusal) → RefusesComments (for_run keys) text r → ¬ IsForAnyInput r
    → OfJudged by keys text (reply.Refused r)
of_refused by keys text (refusal.File line why) h n = NoFile line why h
of_refused by keys text (refusal.Comment line) h n = Amiss line h
of_refused by keys text refusal.OutOfMemory h n = absurd (n tt)
of_refused by keys text _ h n = absurd h

of_judged : (by : List (ℕ × ℕ)) (keys : Bool) (text : List ℕ) (r : Reply) → IsJudgedOfFile by keys text r → IsOfInput r → OfJudged by keys text r
of_judged by keys text (reply.Jobs printed refuted) h n = Judged_of printed refuted h
of_judged by keys text (reply.Refused r) h n = of_refused by keys text r h n
of_judged by keys text (reply.Ended outcome) h n = absurd h
of_judged by keys text (reply.Text printed) h n = absurd h
of_judged by keys text (reply.Counted printed stopped stats) h n = absurd h
of_judged by keys text (reply.Script answers lines stopped refused) h n = absurd h
of_judged by keys text (reply.Outcomes printed stopped all) h n = absurd h
of_judged by keys text (reply.NoOutcome printed all) h n = absurd h
of_judged by keys text (reply.Several printed refused unmet told) h n = absurd h

module _ (files : FilesAreDetermined) (runs : FilesCanRun) (reports : ReportsByAreDetermined) where
  one_file : (text : List ℕ) (f g : File) → IsRunFile text (Ok f) → IsRunFile text (Ok g) → f ≡ g
  one_file text f g a b = let both : Ok f ≡ Ok g = files text (Ok f) (Ok g) a b in cc

  no_file : (text : List ℕ) (f : File) (line : ℕ) (why : Reason) → IsRunFile text (Ok f) → IsRunFile text (Err (FileError.Refused line why)) → ⊥
  no_file text f line why a b =
      let both : Ok f ≡ Err (FileError.Refused line why) = files text (Ok f) (Err (FileError.Refused line why)) a b in cc

  -- no comment is amiss, and one is
  not_amiss : (text : List ℕ) (keys : Bool) (f g : File) (n : ℕ) → IsRunFile text (Ok f) → IsRunFile text (Ok g)
      → first_amiss (subjects_of (for_run keys) f) text ≡ None → first_amiss (subjects_of (for_run keys) g) text ≡ Some n → ⊥
  not_amiss text keys f g n a b none some =
      let same = one_file text f g a b in
      let there = subst (λ (h : File). first_amiss (subjects_of (for_run keys) h) text ≡ Some n) (sym same) some in
      let both : None ≡ Some n = sym none ∙ there in
      cc

  one_amiss : (text : List ℕ) (keys : Bool) (line other : ℕ) → RefusesComments (for_run keys) text (refusal.Comment line)
      → RefusesComments (for_run keys) text (refusal.Comment other) → line ≡ other
  one_amiss text keys line other (strict, (f, said, (n, is, amiss))) (again, (g, read, (m, at, found))) =
      let same = one_file text f g said read in
      let there = subst (λ (h : File). first_amiss (subjects_of (for_run keys) h) text ≡ Some m) (sym same) found in
      let both : Some n ≡ Some m = sym amiss ∙ there in
      let one : n ≡ m = cc in
      is ∙ (ap (λ (k : ℕ). k + 1) one ∙ sym at)

  both_judged : (by : List (ℕ × ℕ)) (keys : Bool) (text : List ℕ) (p q : String Global) (x y : Bool) → IsJudgedOfFile by keys text (reply.Jobs p x)
      → IsJudgedOfFile by keys text (reply.Jobs q y) → PrintsAs (reply.Jobs p x) (reply.Jobs q y)
  both_judged by keys text p q x y
      (expected, (f, said, is, none), left, (d, heads, counts), tests, begins, (g, read, (lines, stopped, told, shows, refutes)))
      (wanted, (h, known, are, clean), more, (e, starts, counted), checks, opens, (k, seen, (others, halted, heard, shown, denied))) =
      let same = one_file text f h said known in
      let want : expected ≡ wanted = is ∙ (ap (λ (m : File). expectations_of (subjects_of (for_run keys) m) text) same ∙ sym are) in
      let file = one_file text k g seen read in
      let there = subst (λ (m : File). IsToldBy by keys true m others halted) file heard in
      let w = asked_world_of keys g in
      let one : left ≡ more = counts ∙ (ap (λ (m : File). left_of (subjects_of (for_run keys) m) text) (one_file text d e heads starts) ∙ sym counted) in
      let line : lines ≡ others = (reports w by g.names true lines others stopped halted
      (fresh_asked keys g (shaped text g read) (runs text g read)) told there).0 in
      let same_tests : tests ≡ checks =
      shows ∙ (ap (λ (t : List ℕ). judged_text t expected) line ∙ (ap (λ (es : List Expected). judged_text others es) want ∙ sym shown)) in (
        begins ∙ (ap (λ (n : ℕ). left_text [] n ++ tests) one ∙ (ap (λ (t : List ℕ). left_text [] more ++ t) same_tests ∙ sym opens)),
        ap jobs_status (refutes ∙ (ap (λ (t : List ℕ). is_any_refuted t expected) line ∙
            (ap (λ (es : List Expected). is_any_refuted others es) want ∙ sym denied))),
      )

  one_reply : (by : List (ℕ × ℕ)) (keys : Bool) (text : List ℕ) (r s : Reply) → OfJudged by keys text r → OfJudged by keys text s → PrintsAs r s
  one_reply by keys text r s (Judged_of p x a) (Judged_of q y b) = both_judged by keys text p q x y a b
  one_reply by keys text r s (Judged_of p x a) (NoFile line why b) =
      let (expected, (f, said, is, none), left, counts, tests, begins, rest) = a in absurd (no_file text f line why said b)
  one_reply by keys text r s (NoFile line why a) (Judged_of q y b) =
      let (expected, (f, said, is, none), left, counts, tests, begins, rest) = b in absurd (no_file text f line why said a)
  one_reply by keys text r s (Judged_of p x a) (Amiss line b) =
      let (expected, (f, said, is, none), left, counts, tests, begins, rest) = a in
      let (strict, (g, read, (n, at, amiss))) = b in
      absurd (not_amiss text keys f g n said read (none refl) amiss)
  one_reply by keys text r s (Amiss line a) (Judged_of q y b) =
      let (expected, (f, said, is, none), left, counts, tests, begins, rest) = b in
      let (strict, (g, read, (n, at, amiss))) = a in
      absurd (not_amiss text keys f g n said read (none refl) amiss)
  one_reply by keys text r s (NoFile line why a) (NoFile place reason b) =
      let both = files text (Err (FileError.Refused line why)) (Err (FileError.Refused place reason)) a b in
      let same : reply.Refused (refusal.File line why) ≡ reply.Refused (refusal.File place reason) = cc in
      (ap reply_text same, ap status_of same)
  one_reply by keys text r s (NoFile line why a) (Amiss place b) = let (strict, (g, read, rest)) = b in absurd (no_file text g line why read a)
  one_reply by keys text r s (Amiss place a) (NoFile line why b) = let (strict, (g, read, rest)) = a in absurd (no_file text g line why read b)
  one_reply by keys text r s (Amiss line a) (Amiss place b) =
      let same : reply.Refused (refusal.Comment line) ≡ reply.Refused (refusal.Comment place) = ap
      (λ (n : ℕ). reply.Refused (refusal.Comment n)) (one_amiss text keys line place a b) in
      (ap reply_text same, ap status_of same)

  pub one_judged : (by : List (ℕ × ℕ)) (keys : Bool) (text : List ℕ) (r s : Reply) → IsJudgedOfFile by keys text r → IsJudgedOfFile by keys text s
      → IsOfInput r → IsOfInput s → PrintsAs r s
  one_judged by keys text r s a b n m = one_reply by keys text r s (of_judged by keys text r a n) (of_judged by keys text s b m)
