use Rattle.std.proofs.Common.{◌≡◌, map, drop}
use Rattle.tlsf_expand.specs.Signals.{declares}
use Rattle.tlsf_syntax.specs.Seen.{declaration_seen}
use Rattle.tlsf_expand.proofs.signals.declares.Given as goal

abbrev pub invariant-loop-declaration : goal.invariant-loop-declaration
invariant-loop-declaration l = declares l.name (map declaration_seen l.fn.declarations) ≡ declares l.name (map declaration_seen (drop l.declaration-index l.declarations))
