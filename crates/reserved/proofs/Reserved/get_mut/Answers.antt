use borrow.Follows.Closed.{read_of}
use Rattle.std.proofs.Common.{◌≡◌, ℕ, vec_capacity, rules}
use Rattle.std.proofs.Math.Nat.{ℕ_set}
use Rattle.std.specs.List.{IsItemAtMut}
use Rattle.std.specs.Vec.{with_item as with_vec_item}
use Rattle.reserved.specs.declared.Reserved.{Reserved}
use Rattle.reserved.specs.Reserved.{items}
use Rattle.reserved.specs.Lends.{with_item}
use Rattle.reserved.proofs.Reserved.get_mut.Goals as goal

-- what a borrow leaves is told by the items alone: that the memory stays has only one proof
told_by_items : {T : Type 0} {CAP : ℕ} (name : _) (table : Reserved T CAP) (at : ℕ)
    (written : (w : T) → vec_capacity (with_vec_item table.items at w) ≡ CAP) (kept : vec_capacity table.items ≡ CAP) →
    read_of name (λ w. record { items = with_vec_item table.items at w; reserved = written w }) (record { items = table.items; reserved = kept })
    ≡ read_of name (with_item table at) table
told_by_items name table at written kept =
    λ i. read_of name (λ w. record { items = with_vec_item table.items at w; reserved = ℕ_set _ _ (written w) table.reserved i })
    (record { items = table.items; reserved = ℕ_set _ _ kept table.reserved i })

pub returns : goal.returns
returns g c =
    let item : IsItemAtMut (items c.args.self.now) c.args.at c.get_mut.result = search rules in
    (told_by_items _ c.args.self.now c.args.at _ _, record { lends = tt; item = item })
