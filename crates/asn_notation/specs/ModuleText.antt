-- Which texts are a module, apart from how they are read (X.680, "module definition").
use Rattle.std.specs.Prelude.{◌≡◌, ℕ, List}
use Rattle.asn_notation.specs.Tree.{ModuleTree}
use Rattle.asn_notation.specs.Lexing.{lexed}
use Rattle.asn_notation.specs.Grammar.{module_written}
use Rattle.asn_notation.specs.Fitting.{IsModule}

-- the tokens of the text are what the module is written as, and its types are of the profile's notation
pub record IsModuleText (levels : ℕ) (text : List ℕ) (m : ModuleTree) : Type 0 where
  pub tokens : lexed text ≡ module_written m
  pub fits : IsModule m levels
