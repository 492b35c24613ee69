-- A name gives its fields back.
use Rattle.std.proofs.Common.{◌≡◌, ℕ, ◌-◌, List, ◌++◌, length, take, replicate, ap, sym, arith}
use Rattle.std.proofs.lemmas.List.{length-take-le}
use Rattle.radio_values.specs.declared.mount_name.MountName.TheInside.{Inside}
use Rattle.radio_values.specs.MountName.{HoldsName}

pub inverse_of_view : (n : Inside) → HoldsName n.len n.bytes
    → (let name = take n.len n.bytes in let back : Inside = record { len = length name; bytes = name ++ replicate (255 - length name) 0 } in back ≡ n)
inverse_of_view n h =
    let same : length (take n.len n.bytes) ≡ n.len = length-take-le n.len n.bytes (omega arith) in
    rw same (ap (λ (bytes : List ℕ). let back : Inside = record { len = n.len; bytes = bytes } in back) (sym h.is_padded))
