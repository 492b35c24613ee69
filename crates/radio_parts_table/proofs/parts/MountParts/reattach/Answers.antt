use Rattle.std.proofs.Common.{◌≡◌, ℕ, Option, List, refl, ap, sym, subst, ◌∙◌}
use Rattle.radio_parts_table.proofs.Words.{find, option_map, update_first, Attachment, at_place, IsAt, GoesOver, ByMount, has_part, MountAttachments, is_of_mount, places_in, without_id, with_boxed}
use Rattle.radio_parts_table.proofs.ByMountLemmas.{IsHis, found_his, moved_his, shifted_others, shifted_there, put_back_in, goes_over, part_stays, taken_out, cleared}
use Rattle.radio_parts_table.proofs.parts.MountParts.reattach.Goals as goal

shown : {parts parts' : ByMount} → parts ≡ parts' → parts.attached ≡ parts'.attached
shown same = ap (λ (parts : ByMount). parts.attached) same

its_own : (c : goal.After-put) → IsHis c.args.id c.take-boxed.result
its_own c = subst (IsHis c.args.id) (sym c.take-boxed.ensures.found) (found_his c.args.id (find (is_of_mount c.args.from.now) c.args.self.now.attached))

put_back : (c : goal.After-put)
    → c.put.new.self.attached ≡ put_back_in c.args.id c.args.from.now c.args.to.now c.args.self.now.attached (option_map (at_place c.args.place) c.take-boxed.result)
put_back c =
    let id = c.args.id in
    let to = c.args.to.now in
    let boxed = c.take-boxed.result in
    let row : c.at_place.result ≡ option_map (at_place c.args.place) boxed =
    c.at_place.ensures ∙ ap (λ (n : ℕ). option_map (at_place n) boxed) c.bytes_before.ensures in
    shown c.put.ensures ∙ ap (λ (r : Option Attachment). update_first (is_of_mount to) (with_boxed r) c.take.new.self.attached) row
    ∙ ap (update_first (is_of_mount to) (with_boxed (option_map (at_place c.args.place) boxed)))
    (shown c.take.ensures.rest ∙ ap (update_first (is_of_mount to) (without_id id)) (shown c.take-boxed.ensures.rest))

pub returns-clause-others : goal.returns-clause-others
returns-clause-others c = λ mount other apart.
    ap (λ (ms : List MountAttachments). places_in ms mount other) (put_back c)
    ∙ shifted_others c.args.id c.args.from.now c.args.to.now c.args.self.now.attached (option_map (at_place c.args.place) c.take-boxed.result)
    (moved_his c.args.id c.args.place c.take-boxed.result (its_own c)) mount other apart

pub returns-clause-there : goal.returns-clause-there
returns-clause-there c =
    subst (λ (ms : List MountAttachments). IsAt (places_in ms c.args.to.now c.args.id) c.args.place) (sym (put_back c))
    (shifted_there c.args.id c.args.from.now c.args.to.now c.args.self.now.attached c.args.place c.take-boxed.result (its_own c))

pub returns-clause-over : goal.returns-clause-over
returns-clause-over c = λ part.
    subst (λ (ms : List MountAttachments). GoesOver (places_in c.args.self.now.attached) (places_in ms) c.args.id c.args.from.now c.args.to.now) (sym (put_back c))
    (goes_over c.args.id c.args.from.now c.args.to.now c.args.self.now.attached c.take-boxed.result c.take-boxed.ensures.found (its_own c) c.args.place part)

pub returns-clause-parts : goal.returns-clause-parts
returns-clause-parts c =
    let id = c.args.id in
    let from = c.args.from.now in
    let to = c.args.to.now in
    let mounts = c.args.self.now.attached in
    λ mount. ap (λ (ms : List MountAttachments). has_part ms mount) (put_back c)
    ∙ part_stays to (with_boxed (option_map (at_place c.args.place) c.take-boxed.result)) (λ x. refl) (cleared id from to mounts) mount
    ∙ part_stays to (without_id id) (λ x. refl) (taken_out id from to mounts) mount ∙ part_stays from (without_id id) (λ x. refl) mounts mount
