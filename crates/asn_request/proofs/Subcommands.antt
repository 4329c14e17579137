-- Commands that get one subcommand after the other.
use Rattle.std.proofs.Common.{◌≡◌, List, [], ◌∷◌, ◌++◌, ap, append_assoc, false}
use Rattle.clap.specs.Words.{App, Shape, with_subcommand}
use Rattle.asn_request.specs.Command.{with_subcommands}

-- one subcommand after others
pub one_more : (a : App) (shapes : List Shape) (s : Shape) → with_subcommand (with_subcommands a shapes) s ≡ with_subcommands a (shapes ++ s ∷ [])
one_more a shapes s = ap (λ (l : List Shape). record { top = record a.top { is_leaf = false }; subs = l }) (append_assoc a.subs shapes (s ∷ []))
