-- What a command is to a parse, after one more argument that is not global, or one more subcommand.
use Rattle.std.proofs.Common.{◌≡◌, ◌∙◌, ap, ◌∷◌, ◌++◌, [], false, Result, Ok, Err}
use Rattle.std.specs.Prelude.{IfOk, ◌||◌, Bool}
use Rattle.clap.specs.Words.{App, AddsArg, AddsSubcommand, Rule, Shape, app_of, rule_of, shape_of, with_subcommand}
use Rattle.clap.specs.declared.builder.command.Command.TheViews.{out-Command as fields_of}
use Rattle.clap.specs.declared.builder.arg.Arg.{Arg}
use Rattle.clap.specs.declared.builder.command.Command.{Command}

-- a command of this shape, none of whose arguments is global
pub record Made (c : Command) (s : Shape) : Type 0 where
  pub shape : shape_of c ≡ s
  pub own : (fields_of c).has_globals ≡ false

-- with one more argument
abbrev pub with_one : Shape → Rule → Shape
with_one s r = record s { rules = s.rules ++ r ∷ [] }

pub added : (old : Command) (a : Arg) (new : Command) (s : Shape) (r : Rule) → Made old s → rule_of a ≡ r → a.global ≡ false → AddsArg old a new
    → Made new (with_one s r)
added old a new s r made rule own adds =
    record {
      shape = ap (λ (x : App). x.top) (adds.shape own) ∙ ap (λ (q : Rule). with_one (shape_of old) q) rule
          ∙ ap (λ (t : Shape). with_one t r) made.shape;
      own = adds.globals ∙ ap (λ (b : Bool). b || a.global) made.own ∙ own;
    }

-- the last argument, where there is memory
pub last : {E : Type 0} (old : Command) (a : Arg) (made_of : Result Command E) (s : Shape) (r : Rule) → Made old s → rule_of a ≡ r
    → a.global ≡ false → IfOk made_of (AddsArg old a) → IfOk made_of (λ new. Made new (with_one s r))
last old a (Ok new) s r made rule own adds = added old a new s r made rule own adds
last old a (Err e) s r made rule own adds = tt

pub shapes : {E : Type 0} (made_of : Result Command E) (s : Shape) → IfOk made_of (λ new. Made new s) → IfOk made_of (λ new. shape_of new ≡ s)
shapes (Ok new) s made = made.shape
shapes (Err e) s made = tt

pub owns : {E : Type 0} (made_of : Result Command E) (s : Shape) → IfOk made_of (λ new. Made new s)
    → IfOk made_of (λ new. (fields_of new).has_globals ≡ false)
owns (Ok new) s made = made.own
owns (Err e) s made = tt

-- a command with one more subcommand, none of whose arguments is global
pub joined : (old sub new : Command) (a : App) (s : Shape) → app_of old ≡ a → Made sub s → AddsSubcommand old sub new
    → app_of new ≡ with_subcommand a s
joined old sub new a s app made adds =
    adds.shape made.own ∙ ap (λ (x : App). with_subcommand x (shape_of sub)) app ∙ ap (λ (t : Shape). with_subcommand a t) made.shape

-- the last subcommand, where there is memory
pub last_joined : {E : Type 0} (old sub : Command) (made_of : Result Command E) (a : App) (s : Shape) → app_of old ≡ a → Made sub s
    → IfOk made_of (AddsSubcommand old sub) → IfOk made_of (λ new. app_of new ≡ with_subcommand a s)
last_joined old sub (Ok new) a s app made adds = joined old sub new a s app made adds
last_joined old sub (Err e) a s app made adds = tt
