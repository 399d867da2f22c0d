use Rattle.std.proofs.Common.{◌≡◌, ◌∙◌, ◌-◌, ◌++◌, sym, ap, Some, map, set, arith, true}
use Rattle.in_flight.specs.Table.{is_owed}
use Rattle.in_flight.proofs.Places.{count_set, owed_below}
use Rattle.in_flight.proofs.TextLines.{owed_not_told, owed_in_rest, set_behind}
use Rattle.in_flight.proofs.replies.Replies.fill.Goals as goal

pub overflow_sub-place : goal.overflow_sub-place
overflow_sub-place c =
    let owed : is_owed (map Some c.self.inside.told ++ c.self.inside.rest.items) c.args.position ≡ true = rw (← c.self.view_is) at c.requires in
    omega (arith, c.len.ensures.value, owed_not_told c.self.inside.told c.self.inside.rest.items c.args.position owed)

pub index_mut-requires : goal.index_mut-requires
index_mut-requires c =
    let owed : is_owed (map Some c.self.inside.told ++ c.self.inside.rest.items) c.args.position ≡ true = rw (← c.self.view_is) at c.requires in
    omega (
      arith,
      c.self.inside.rest.ok,
      owed_below c.self.inside.rest.items (c.args.position - c.len.result) (owed_in_rest c.self.inside.told c.self.inside.rest.items c.args.position c.len.result c.len.ensures.value owed),
    )

pub overflow_sub-self : goal.overflow_sub-self
overflow_sub-self c =
    let owed : is_owed (map Some c.self.inside.told ++ c.self.inside.rest.items) c.args.position ≡ true = rw (← c.self.view_is) at c.requires in
    omega (
      arith,
      c.self.invariant,
      count_set c.self.inside.rest.items (c.args.position - c.len.result) c.args.text (owed_in_rest c.self.inside.told c.self.inside.rest.items c.args.position c.len.result c.len.ensures.value owed),
    )

pub invariant_of-self : goal.invariant_of-self
invariant_of-self c =
    let owed : is_owed (map Some c.self.inside.told ++ c.self.inside.rest.items) c.args.position ≡ true = rw (← c.self.view_is) at c.requires in
    omega (
      arith,
      c.self.invariant,
      count_set c.self.inside.rest.items (c.args.position - c.len.result) c.args.text (owed_in_rest c.self.inside.told c.self.inside.rest.items c.args.position c.len.result c.len.ensures.value owed),
    )

pub returns : goal.returns
returns c =
    let owed : is_owed (map Some c.self.inside.told ++ c.self.inside.rest.items) c.args.position ≡ true = rw (← c.self.view_is) at c.requires in
    sym (set_behind c.self.inside.told c.self.inside.rest.items c.args.position (c.args.position - c.len.result) (Some c.args.text)
    (omega (arith, c.len.ensures.value, owed_not_told c.self.inside.told c.self.inside.rest.items c.args.position owed)))
    ∙ ap (λ rs. set rs c.args.position (Some c.args.text)) c.self.view_is
