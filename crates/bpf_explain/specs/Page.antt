-- What is printed of a page. Our own choice.
use Rattle.std.specs.Prelude.{ℕ, ◌++◌, List, [], Option, Some, None, codes}
use Rattle.bpf_explain.specs.declared.page.Example.{Example}
use Rattle.bpf_explain.specs.declared.page.Page.{Page}
use Rattle.bpf_explain.specs.declared.definition.Definition.{Definition}
use Rattle.bpf_explain.specs.Term.{term_text}
use Rattle.bpf_codes.specs.CodeText.{code_text}

-- a command, and the line that it prints
abbrev pub example_text : Option Example → List ℕ
example_text None = []
example_text (Some e) =
    codes "    $ " ++ e.command.now ++ codes "\n    " ++ e.printed.now ++ codes "\n\n"

-- the code with its meaning, an example, and what to do
abbrev pub page_text : Page → List ℕ
page_text p =
    code_text p.code ++ codes ": " ++ p.meaning.now ++ codes ".\n\n" ++ example_text p.example
    ++ p.advice.now ++ codes "\n"

-- the name with its meaning, and what to do
abbrev pub definition_text : Definition → List ℕ
definition_text d = term_text d.term ++ codes ": " ++ d.meaning.now ++ codes ".\n\n" ++ d.advice.now ++ codes "\n"
