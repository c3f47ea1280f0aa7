use Rattle.std.proofs.Common.{◌≡◌, map, drop}
use Rattle.tlsf_expand.specs.Signals.{declarations_value}
use Rattle.tlsf_expand.specs.SignalsSeen.{declared_seen}
use Rattle.tlsf_syntax.specs.Seen.{declaration_seen, text_seen}
use Rattle.tlsf_expand.proofs.signals.Declared.declarations.Given as goal

abbrev pub invariant-loop-declaration : goal.invariant-loop-declaration
invariant-loop-declaration l =
    declarations_value l.most (text_seen l.tree) l.from (declared_seen l.fn.self) (map declaration_seen l.fn.declarations) l.fn.work
    ≡ declarations_value l.most (text_seen l.tree) l.from (declared_seen l.self) (map declaration_seen (drop l.declaration-index l.declarations)) l.work
