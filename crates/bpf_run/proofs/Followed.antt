-- What the words ask for, and what is done of it, put together.
use Rattle.std.proofs.Common.{◌≡◌, ◌⊎◌, ℕ, List, [], Result, Ok, Err, inl, inr, map, subst, sym}
use Rattle.std.specs.Prelude.{IfErr, IfOk, IsOkAnd, OnOk}
use Rattle.clap.specs.Words.{Text, fault_of}
use Rattle.bpf_command.specs.CommandLine.{ebpf}
use Rattle.bpf_command.specs.Names.{AsksBy, Refuses, as_flags}
use Rattle.bpf_command.specs.declared.command.Request.{Request}
use Rattle.bpf_command.specs.declared.command_line.CommandError.{CommandError}
use Rattle.bpf_command.specs.declared.command_line.CommandError.TheVariants as error
use Rattle.bpf_run.specs.Program.{error_of, IfExit, IfShown, IfMisused, IsAsked}
use Rattle.bpf_run.specs.declared.program.Ending.{Ending}
use Rattle.bpf_run.specs.declared.program.Ending.TheVariants as ending
use Rattle.bpf_replies.specs.declared.reply.Status.{Status}

-- what is asked for is done, or the refusal of the words is printed
abbrev Exits : List Text → Ending → (Request → Status → List ℕ → Type 0) → Type 0 → (CommandError → Status → Type 0) → Type 0
Exits words end P U R = IfExit end (λ status stats. ((request : Request) × IsAsked words request × P request status stats)
    ⊎ ((e : CommandError) × Refuses words e × U × (stats ≡ []) × R e status))

exits : (words : List Text) (asked : Result Request CommandError) (end : Ending)
    (P : Request → Status → List ℕ → Type 0) (U : Type 0) (R : CommandError → Status → Type 0)
    → OnOk asked (fault_of ebpf (as_flags words) ≡ []) → IfOk asked (AsksBy words) → IfErr asked (Refuses words)
    → IfExit end (λ status stats. IfOk asked (λ request. P request status stats))
    → IfExit end (λ status stats. IfErr asked (λ e. U × (stats ≡ []) × R e status))
    → Exits words end P U R
exits words (Ok request) (ending.Exit status) P U R accepted named refused performed printed = inl (request, (accepted, named), performed)
exits words (Ok request) (ending.Performed done) P U R accepted named refused performed printed = inl (request, (accepted, named), performed)
exits words (Ok request) (ending.Explained language done) P U R accepted named refused performed printed = inl (request, (accepted, named), performed)
exits words (Err e) (ending.Explained language done) P U R accepted named refused performed printed = inr (e, refused, printed.0, printed.1, printed.2)
exits words (Err e) (ending.Performed done) P U R accepted named refused performed printed = inr (e, refused, printed.0, printed.1, printed.2)
exits words (Err e) (ending.Exit status) P U R accepted named refused performed printed = inr (e, refused, printed.0, printed.1, printed.2)
exits words (Ok request) (ending.NoContext status) P U R accepted named refused performed printed = inl (request, (accepted, named), performed)
exits words (Err e) (ending.NoContext status) P U R accepted named refused performed printed = inr (e, refused, printed.0, printed.1, printed.2)
exits words asked (ending.Shown e) P U R accepted named refused performed printed = tt
exits words asked ending.NotText P U R accepted named refused performed printed = tt
exits words asked (ending.Misused misuse) P U R accepted named refused performed printed = tt

shows : (words : List Text) (asked : Result Request CommandError) (end : Ending) (U V W : Type 0) → IfErr asked (Refuses words)
    → IfShown end (λ e. (asked ≡ Err (error.Shown e)) × U × V × W) → IfShown end (λ e. Refuses words (error.Shown e) × U × V × W)
shows words asked (ending.Exit status) U V W refused shown = tt
shows words asked (ending.NoContext status) U V W refused shown = tt
shows words asked (ending.Shown e) U V W refused shown = (
  subst (λ (a : Result Request CommandError). IfErr a (Refuses words)) shown.0
      refused,
  shown.1,
  shown.2,
  shown.3,
)
shows words asked ending.NotText U V W refused shown = tt
shows words asked (ending.Performed done) U V W refused shown = tt
shows words asked (ending.Explained language done) U V W refused shown = tt
shows words asked (ending.Misused misuse) U V W refused shown = tt

lacks : (words : List Text) (asked : Result Request CommandError) (end : Ending) (U V W : Type 0) → IfErr asked (Refuses words)
    → IfMisused end (λ u. (asked ≡ Err (error_of u)) × U × V × W) → IfMisused end (λ u. Refuses words (error_of u) × U × V × W)
lacks words asked (ending.Exit status) U V W refused lacking = tt
lacks words asked (ending.NoContext status) U V W refused lacking = tt
lacks words asked (ending.Performed done) U V W refused lacking = tt
lacks words asked (ending.Explained language done) U V W refused lacking = tt
lacks words asked (ending.Shown e) U V W refused lacking = tt
lacks words asked ending.NotText U V W refused lacking = tt
lacks words asked (ending.Misused misuse) U V W refused lacking =
    (subst (λ (a : Result Request CommandError). IfErr a (Refuses words)) lacking.0 refused, lacking.1, lacking.2, lacking.3)

-- the words are the texts of some values, and `asked` is what the command line answers to them
module _ (X A E : Type 0) (text : X → Text) (items_of : A → List X) (words : Result A E) (v : A) (is : words ≡ Ok v)
    (given : List X) (same : given ≡ items_of v) (asked : Result Request CommandError) (end : Ending) where
  pub followed : (P : Request → Status → List ℕ → Type 0) (U : Type 0) (R : CommandError → Status → Type 0)
      → OnOk asked (fault_of ebpf (as_flags (map text given)) ≡ []) → IfOk asked (AsksBy (map text given))
      → IfErr asked (Refuses (map text given)) → IfExit end (λ status stats. IfOk asked (λ request. P request status stats))
      → IfExit end (λ status stats. IfErr asked (λ e. U × (stats ≡ []) × R e status))
      → IfExit end (λ status stats. IfOk words (λ w. ((request : Request) × IsAsked (map text (items_of w)) request × P request status stats)
      ⊎ ((e : CommandError) × Refuses (map text (items_of w)) e × U × (stats ≡ []) × R e status)))
  followed P U R accepted named refused performed printed =
      let known : Exits (map text (items_of v)) end P U R = subst (λ (xs : List X). Exits (map text xs) end P U R) same
      (exits (map text given) asked end P U R accepted named refused performed printed) in
      subst (λ (w : Result A E). IfExit end (λ status stats. IfOk w
      (λ w. ((request : Request) × IsAsked (map text (items_of w)) request × P request status stats)
      ⊎ ((e : CommandError) × Refuses (map text (items_of w)) e × U × (stats ≡ []) × R e status)))) (sym is) known

  pub shown_of : (U V W : Type 0) → IfErr asked (Refuses (map text given)) → IfShown end (λ e. (asked ≡ Err (error.Shown e)) × U × V × W)
      → IfShown end (λ e. IsOkAnd words (λ w. Refuses (map text (items_of w)) (error.Shown e)) × U × V × W)
  shown_of U V W refused shown =
      let known = subst (λ (xs : List X). IfShown end (λ e. Refuses (map text xs) (error.Shown e) × U × V × W)) same
      (shows (map text given) asked end U V W refused shown) in
      subst (λ (w : Result A E). IfShown end (λ e. IsOkAnd w (λ w. Refuses (map text (items_of w)) (error.Shown e)) × U × V × W)) (sym is) known

  pub lacked : (U V W : Type 0) → IfErr asked (Refuses (map text given)) → IfMisused end (λ u. (asked ≡ Err (error_of u)) × U × V × W)
      → IfMisused end (λ u. IsOkAnd words (λ w. Refuses (map text (items_of w)) (error_of u)) × U × V × W)
  lacked U V W refused lacking =
      let known = subst (λ (xs : List X). IfMisused end (λ u. Refuses (map text xs) (error_of u) × U × V × W)) same
      (lacks (map text given) asked end U V W refused lacking) in
      subst (λ (w : Result A E). IfMisused end (λ u. IsOkAnd w (λ w. Refuses (map text (items_of w)) (error_of u)) × U × V × W)) (sym is) known
