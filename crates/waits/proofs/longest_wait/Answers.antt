-- `waits::longest_wait` meets its contract: X and FJ(X) fit, whatever the settings.
use Rattle.std.proofs.Common.{rules, ap, ◌∙◌}
use Rattle.waits.proofs.Bounds.{Held, W_at_most, W_bound}
use Rattle.waits.proofs.Order.{longer_is}
use Rattle.waits.proofs.longest_wait.Goals as goal

pub overflow_add-result : goal.overflow_add-result
overflow_add-result c =
    let held : Held c.args.s = record { t = search rules; j = search rules; l = search rules } in
    let sum = W_at_most _ _ _ _ held c.first_wait-first.ensures c.character_first_wait.ensures (ap (λ x. x.0) c.max-second.ensures ∙ longer_is _ _) in
    rw sum (record { fits = W_bound _ held })

pub returns : goal.returns
returns c =
    let held : Held c.args.s = record { t = search rules; j = search rules; l = search rules } in
    W_at_most _ _ _ _ held c.first_wait-first.ensures c.character_first_wait.ensures (ap (λ x. x.0) c.max-second.ensures ∙ longer_is _ _)
