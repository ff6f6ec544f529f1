-- What can be said of an output: what reaches it is outside of any contract.
use Rattle.std.specs.Prelude.{ℕ, true, false, List, [], ◌≡◌}
use Rattle.text.specs.declared.output.Output.{Output}

-- an output to which nothing was written yet
abbrev pub fresh : Output
fresh = record { failed = false }

-- an output before a text and after it: one that failed stays as it is, and an empty text changes nothing
pub record Said (o : Output) (s : List ℕ) (r : Output) : Type 0 where
  pub stays : o.failed ≡ true → r ≡ o
  pub nothing : s ≡ [] → r ≡ o
