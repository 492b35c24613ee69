-- What headers mean.
use Rattle.std.proofs.Common.{◌≡◌, ◌≢◌, ℕ, zero, suc, ◌+◌, ◌-◌, ◌≤◌, min, Bool, true, false, cond, ◌&&◌, nat_eq, nat_lt, slice_index, get_or, ⊎_elim, ◌⊎◌, inl, inr, List, [], ◌∷◌, ◌++◌, length, take, drop, codes, Option, None, Some, refl, sym, ap, subst}
use Rattle.std.proofs.Common.{◌∙◌, arith, append_assoc, length-append}
use Rattle.std.proofs.lemmas.Bool.Decides.{nat_tests, Decides-eqb}
use Rattle.std.proofs.lemmas.Slice.Eq.{bytes_eq-Decides}
use Rattle.std.specs.Str.{bytes_eq}
use Rattle.std.proofs.lemmas.Option.{option_and_then_some}
use Rattle.std.proofs.lemmas.List.{get_or-append_right, length-take, take_more, take-append-drop, take-append-le, take_all, take_at}
use Rattle.radio_texts.specs.Cuts.{cut}
use Rattle.radio_texts.proofs.LawLemmas.{cut-first}
use Rattle.radio_addr.specs.declared.address.Address.{Address}
use Rattle.radio_proxy.specs.Headers.{address_in, by_family, header_by, header_of, header_with, is_port, client_in_fields, named_in, tcp_of, unended, client_of_family, line_without_return}
use Rattle.radio_proxy.specs.Laws.{AreTcpFields, Behind as BehindFamily, IsHeader, IsIgnored, Names, Nothing, ByNone, ByTcp, family_word}
use Rattle.radio_proxy.specs.declared.header.Header.TheVariants.{Partial, Whole, Bad}
use Rattle.radio_proxy.specs.declared.header.AddressFamily.{AddressFamily}
use Rattle.radio_proxy.specs.declared.header.AddressFamily.TheVariants.{V4, V6}
use Rattle.radio_proxy.specs.declared.header.NamedClient.{NamedClient}
use Rattle.radio_proxy.specs.declared.header.NamedClient.TheVariants.{Client, Nobody}

abbrev Parts : Type 0
Parts = Option (List ℕ × List ℕ)

-- ---- more bytes

-- a text that is cut is cut there, whatever follows
cut_more : (c : ℕ) (text more front back : List ℕ) → cut c text ≡ Some (front, back) → cut c (text ++ more) ≡ Some (front, back ++ more)
cut_more c text more front back is =
    let found = (cut-first c text front back).0 is in
    (cut-first c (text ++ more) front (back ++ more)).1 (ap (λ t. t ++ more) found.0 ∙ append_assoc front (c ∷ back) more, found.1)

-- the first bytes of more are the first bytes, and more
front_more : (n : ℕ) (bytes more : List ℕ) → take n (bytes ++ more) ≡ take n bytes ++ take (n - length bytes) more
front_more zero [] more = refl
front_more (suc n) [] more = let e : suc n - 0 ≡ suc n = omega arith in rw e refl
front_more zero (b ∷ bytes) more = let e : 0 - suc (length bytes) ≡ 0 = omega arith in rw e refl
front_more (suc n) (b ∷ bytes) more =
    let e : suc n - suc (length bytes) ≡ n - length bytes = omega arith in
    rw e (ap (λ t. b ∷ t) (front_more n bytes more))

-- as many bytes as are looked at are all that are
full : (n : ℕ) (bytes more : List ℕ) → nat_lt (length (take n bytes)) n ≡ false → take n (bytes ++ more) ≡ take n bytes
full n bytes more few =
    let many : n ≤ length (take n bytes) = grind (arith, nat_tests) in
    let all : length (take n bytes) ≡ min n (length bytes) = length-take n bytes in
    take-append-le n bytes more (omega arith)

decided : (bytes more : List ℕ) (o : Parts) (b : Bool) → cut 10 (take 107 bytes) ≡ o → nat_lt (length (take 107 bytes)) 107 ≡ b
    → header_by (length (take 107 bytes)) (cut 10 (take 107 bytes)) ≢ Partial
    → header_by (length (take 107 (bytes ++ more))) (cut 10 (take 107 (bytes ++ more))) ≡ header_by (length (take 107 bytes)) (cut 10 (take 107 bytes))
decided bytes more (Some (line, rest)) b is few some =
    let longer : cut 10 (take 107 (bytes ++ more)) ≡ Some (line, rest ++ take (107 - length bytes) more) = ap (cut 10) (front_more 107 bytes more) ∙ cut_more 10 (take 107 bytes) _ line rest is in
    rw (longer, is) refl
decided bytes more None true is few some = absurd (some (rw (is, few) refl))
decided bytes more None false is few some = rw (full 107 bytes more few) refl

pub any_pieces : (bytes more : List ℕ) → header_of bytes ≢ Partial → header_of (bytes ++ more) ≡ header_of bytes
unfolding header_of
any_pieces bytes more some = decided bytes more (cut 10 (take 107 bytes)) (nat_lt (length (take 107 bytes)) 107) refl refl some

-- ---- the line

first_line : (bytes : List ℕ) (len : ℕ) (named : NamedClient) (line rest : List ℕ) (o : Option NamedClient) → cut 10 (take 107 bytes) ≡ Some (line, rest)
    → named_in line ≡ o → header_with (length line + 1) o ≡ Whole len named → IsHeader bytes len named
first_line bytes len named line rest None is names e = cc
first_line bytes len named line rest (Some other) is names e =
    let found = (cut-first 10 (take 107 bytes) line rest).0 is in
    let whole : bytes ≡ line ++ 10 ∷ (rest ++ drop 107 bytes) =
    sym (take-append-drop 107 bytes) ∙ (ap (λ t. t ++ drop 107 bytes) found.0 ∙ append_assoc line (10 ∷ rest) (drop 107 bytes)) in
    let looked : length line + suc (length rest) ≡ length (take 107 bytes) = sym (ap length found.0 ∙ length-append line (10 ∷ rest)) in
    let most : length (take 107 bytes) ≡ min 107 (length bytes) = length-take 107 bytes in
    let counted : len ≡ length line + 1 = cc in
    record {
      line = line;
      rest = rest ++ drop 107 bytes;
      are_bytes = whole;
      first = found.1;
      counted = counted;
      short = omega arith;
      names = cc;
    }

by_line : (bytes : List ℕ) (len : ℕ) (named : NamedClient) (o : Parts) (b : Bool) → cut 10 (take 107 bytes) ≡ o → nat_lt (length (take 107 bytes)) 107 ≡ b
    → header_by (length (take 107 bytes)) o ≡ Whole len named → IsHeader bytes len named
by_line bytes len named (Some (line, rest)) b is few e = first_line bytes len named line rest (named_in line) is refl e
by_line bytes len named None true is few e = let no : unended (length (take 107 bytes)) ≡ Partial = rw few refl in cc
by_line bytes len named None false is few e = let no : unended (length (take 107 bytes)) ≡ Bad = rw few refl in cc

is_line : (bytes : List ℕ) (len : ℕ) (named : NamedClient) → header_of bytes ≡ Whole len named → IsHeader bytes len named
unfolding header_of
is_line bytes len named e = by_line bytes len named (cut 10 (take 107 bytes)) (nat_lt (length (take 107 bytes)) 107) refl refl e

front_line : (line rest : List ℕ) (n : ℕ) → 107 - length line ≡ suc n → length line ≤ 107 → take 107 (line ++ 10 ∷ rest) ≡ line ++ 10 ∷ take n rest
front_line line rest n left short = front_more 107 line (10 ∷ rest) ∙ rw (take_all 107 line short, left) refl

is_read : (bytes : List ℕ) (len : ℕ) (named : NamedClient) → IsHeader bytes len named → header_of bytes ≡ Whole len named
unfolding header_of
is_read bytes len named h =
    let n = 106 - length h.line in
    let left : 107 - length h.line ≡ suc n = omega (arith, h.short, h.counted) in
    let looked : take 107 bytes ≡ h.line ++ 10 ∷ take n h.rest = ap (take 107) h.are_bytes ∙ front_line h.line h.rest n left (omega (arith, h.short, h.counted)) in
    let is : cut 10 (take 107 bytes) ≡ Some (h.line, take n h.rest) = (cut-first 10 (take 107 bytes) h.line (take n h.rest)).1 (looked, h.first) in
    rw (is, h.names, h.counted) refl

pub lines : (bytes : List ℕ) (len : ℕ) (named : NamedClient)
    → (header_of bytes ≡ Whole len named → IsHeader bytes len named) × (IsHeader bytes len named → header_of bytes ≡ Whole len named)
lines bytes len named = (is_line bytes len named, is_read bytes len named)

-- a header is no longer than the bytes that begin with it
pub within : (bytes : List ℕ) (len : ℕ) (named : NamedClient) → header_of bytes ≡ Whole len named → len ≤ length bytes
within bytes len named e = let h = is_line bytes len named e in omega (arith, h.counted, ap length h.are_bytes, length-append h.line (10 ∷ h.rest))

-- no line begins with bytes that are bad
pub bad : (bytes more : List ℕ) (len : ℕ) (named : NamedClient) → header_of bytes ≡ Bad → IsHeader (bytes ++ more) len named → ⊥
bad bytes more len named is h =
    let whole = is_read (bytes ++ more) len named h in
    let same : header_of (bytes ++ more) ≡ header_of bytes = any_pieces bytes more (λ e. cc) in
    cc

-- ---- the fields

-- the end of a line
last_at : (xs : List ℕ) (n : ℕ) → length xs ≡ n + 1 → xs ≡ take n xs ++ get_or xs n 0 ∷ []
last_at xs n is = sym (take_all (n + 1) xs (omega arith)) ∙ take_more xs n 0 (omega arith)

ends_with : (line text : List ℕ) (b : Bool) → nat_eq (slice_index line (length line - 1)) 13 ≡ b → line_without_return line ≡ Some text → line ≡ text ++ 13 ∷ []
ends_with [] text b is e = cc
ends_with (x ∷ line) text false is e = let no : line_without_return (x ∷ line) ≡ None = rw is refl in cc
ends_with (x ∷ line) text true is e =
    let n = length (x ∷ line) - 1 in
    let last : get_or (x ∷ line) n 0 ≡ 13 = (Decides-eqb _ 13).0 is in
    let front : Some (take n (x ∷ line)) ≡ Some text = rw is at e in
    let split : x ∷ line ≡ take n (x ∷ line) ++ get_or (x ∷ line) n 0 ∷ [] = last_at (x ∷ line) n (omega arith) in
    cc

has_end : (text : List ℕ) → line_without_return (text ++ 13 ∷ []) ≡ Some text
has_end text =
    let n : length (text ++ 13 ∷ []) - 1 ≡ length text = omega (arith, length-append text (13 ∷ [])) in
    let none : length text - length text ≡ 0 = omega arith in
    let last : get_or (text ++ 13 ∷ []) (length text) 0 ≡ 13 = get_or-append_right text (13 ∷ []) (length text) (length text) 0 refl (omega arith) ∙ rw none refl in
    let front : take (length text) (text ++ 13 ∷ []) ≡ text = take_at text (13 ∷ []) (length text) refl in
    rw (n, last, front) refl

-- the fields behind the word
data Behind (fields : List ℕ) : NamedClient → Type 0 where
  tcp : (family : AddressFamily) (rest : List ℕ) (peer : Address) → AreTcpFields family rest peer → fields ≡ family_word family ++ 32 ∷ rest → Behind fields (Client peer)
  none : (ignored : List ℕ) → IsIgnored ignored → fields ≡ codes "UNKNOWN" ++ ignored → Behind fields Nobody

by_ports : (peer : Address) (named : NamedClient) (b c : Bool) → cond (b && c) (Some (Client peer)) None ≡ Some named → (b ≡ true) × (c ≡ true) × (named ≡ Client peer)
by_ports peer named true true e = (refl, refl, cc)
by_ports peer named true false e = cc
by_ports peer named false c e = cc

abbrev IsTcp : AddressFamily → List ℕ → NamedClient → Type 0
IsTcp family fields named = (peer : Address) × AreTcpFields family fields peer × (named ≡ Client peer)

is_tcp : (family : AddressFamily) (fields : List ℕ) (named : NamedClient) → tcp_of family fields ≡ Some named → IsTcp family fields named
unfolding tcp_of
is_tcp family fields named e =
    option_and_then_some _ (cut 32 fields) named e (λ client is_client e1.
    option_and_then_some _ (cut 32 client.1) named e1 (λ server is_server e2.
    option_and_then_some _ (cut 32 server.1) named e2 (λ ports is_ports e3.
    option_and_then_some _ (address_in family client.0) named e3 (λ peer is_peer e4.
    option_and_then_some _ (address_in family server.0) named e4 (λ other is_other e5.
    let at_client = (cut-first 32 fields client.0 client.1).0 is_client in
    let at_server = (cut-first 32 client.1 server.0 server.1).0 is_server in
    let at_ports = (cut-first 32 server.1 ports.0 ports.1).0 is_ports in
    let are_ports = by_ports peer named (is_port ports.0) (is_port ports.1) e5 in (
      peer,
      record {
        client = client.0;
        server = server.0;
        client_port = ports.0;
        server_port = ports.1;
        other = other;
        are_fields = at_client.0 ∙ ap (λ t. client.0 ++ 32 ∷ t) (at_server.0 ∙ ap (λ t. server.0 ++ 32 ∷ t) at_ports.0);
        apart = (at_client.1, at_server.1, at_ports.1);
        client_is = is_peer;
        server_is = is_other;
        are_ports = (are_ports.0, are_ports.1);
      },
      are_ports.2,
    ))))))

reads_tcp : (family : AddressFamily) (fields : List ℕ) (peer : Address) → AreTcpFields family fields peer → tcp_of family fields ≡ Some (Client peer)
unfolding tcp_of
reads_tcp family fields peer f =
    let at_client : cut 32 fields ≡ Some (f.client, f.server ++ 32 ∷ (f.client_port ++ 32 ∷ f.server_port)) =
    (cut-first 32 fields f.client _).1 (f.are_fields, f.apart.0) in
    let at_server : cut 32 (f.server ++ 32 ∷ (f.client_port ++ 32 ∷ f.server_port)) ≡ Some (f.server, f.client_port ++ 32 ∷ f.server_port) =
    (cut-first 32 _ f.server _).1 (refl, f.apart.1) in
    let at_ports : cut 32 (f.client_port ++ 32 ∷ f.server_port) ≡ Some (f.client_port, f.server_port) =
    (cut-first 32 _ f.client_port f.server_port).1 (refl, f.apart.2) in
    rw (at_client, at_server, at_ports, f.client_is, f.server_is, f.are_ports.0, f.are_ports.1) refl

-- a family, and what is behind it
abbrev IsChosen : List ℕ → List ℕ → NamedClient → Type 0
IsChosen word rest named = ((word ≡ codes "UNKNOWN") × (named ≡ Nobody)) ⊎ ((family : AddressFamily) × (word ≡ family_word family) × IsTcp family rest named)

is_chosen : (word rest : List ℕ) (named : NamedClient) (a b c : Bool) → bytes_eq word (codes "UNKNOWN") ≡ a → bytes_eq word (codes "TCP4") ≡ b
    → bytes_eq word (codes "TCP6") ≡ c → client_of_family word rest ≡ Some named → IsChosen word rest named
is_chosen word rest named true b c u v w e = let nobody : Some Nobody ≡ Some named = rw u at e in inl ((bytes_eq-Decides word (codes "UNKNOWN")).0 u, cc)
is_chosen word rest named false true c u v w e = inr (V4, (bytes_eq-Decides word (codes "TCP4")).0 v, is_tcp V4 rest named (rw (u, v) at e))
is_chosen word rest named false false true u v w e = inr (V6, (bytes_eq-Decides word (codes "TCP6")).0 w, is_tcp V6 rest named (rw (u, v, w) at e))
is_chosen word rest named false false false u v w e = let none : None ≡ Some named = rw (u, v, w) at e in cc

no_fields : (family : AddressFamily) (peer : Address) → AreTcpFields family [] peer → ⊥
no_fields family peer f = let n = ap length f.are_fields in omega (arith, length-append f.client (32 ∷ (f.server ++ 32 ∷ (f.client_port ++ 32 ∷ f.server_port))), n)

is_behind : (fields : List ℕ) (named : NamedClient) (o : Parts) → cut 32 fields ≡ o → by_family fields o ≡ Some named → Behind fields named
is_behind fields named None is e = ⊎_elim
    (λ u. subst (Behind fields) (sym u.1) (none [] Nothing u.0))
    (λ t. absurd (no_fields t.0 t.2.0 t.2.1))
    (is_chosen fields [] named _ _ _ refl refl refl e)
is_behind fields named (Some (word, rest)) is e =
    let found = (cut-first 32 fields word rest).0 is in
    ⊎_elim
    (λ u. subst (Behind fields) (sym u.1) (none (32 ∷ rest) (BehindFamily rest) (found.0 ∙ ap (λ w. w ++ 32 ∷ rest) u.0)))
    (λ t. subst (Behind fields) (sym t.2.2) (tcp t.0 rest t.2.0 t.2.1 (found.0 ∙ ap (λ w. w ++ 32 ∷ rest) t.1)))
    (is_chosen word rest named _ _ _ refl refl refl e)

named_behind : (fields : List ℕ) (named : NamedClient) → client_in_fields fields ≡ Some named → Behind fields named
unfolding client_in_fields
named_behind fields named e = is_behind fields named (cut 32 fields) refl e

reads_v4 : (rest : List ℕ) (peer : Address) → AreTcpFields V4 rest peer → client_in_fields (codes "TCP4" ++ 32 ∷ rest) ≡ Some (Client peer)
unfolding client_in_fields
reads_v4 rest peer f = reads_tcp V4 rest peer f

reads_v6 : (rest : List ℕ) (peer : Address) → AreTcpFields V6 rest peer → client_in_fields (codes "TCP6" ++ 32 ∷ rest) ≡ Some (Client peer)
unfolding client_in_fields
reads_v6 rest peer f = reads_tcp V6 rest peer f

reads_none : (ignored : List ℕ) → IsIgnored ignored → client_in_fields (codes "UNKNOWN" ++ ignored) ≡ Some Nobody
unfolding client_in_fields
reads_none _ Nothing = refl
reads_none _ (BehindFamily more) = refl

reads_family : (family : AddressFamily) (rest : List ℕ) (peer : Address) → AreTcpFields family rest peer → client_in_fields (family_word family ++ 32 ∷ rest) ≡ Some (Client peer)
reads_family V4 rest peer f = reads_v4 rest peer f
reads_family V6 rest peer f = reads_v6 rest peer f

-- the whole line
whole : (line fields : List ℕ) (named : NamedClient) → line ≡ codes "PROXY " ++ (fields ++ 13 ∷ []) → Behind fields named → Names line named
whole line fields _ is (tcp family rest peer f at) =
    ByTcp family rest peer f (is ∙ ap (λ t. codes "PROXY " ++ t) (ap (λ t. t ++ 13 ∷ []) at ∙ append_assoc (family_word family) (32 ∷ rest) (13 ∷ [])))
whole line fields _ is (none ignored i at) = ByNone ignored i (is ∙ ap (λ t. codes "PROXY " ++ (t ++ 13 ∷ [])) at)

with_word : (line text word fields : List ℕ) (named : NamedClient) (b : Bool) → bytes_eq word (codes "PROXY") ≡ b → line_without_return line ≡ Some text
    → cut 32 text ≡ Some (word, fields) → cond b (client_in_fields fields) None ≡ Some named → Names line named
with_word line text word fields named false is ends cuts e = cc
with_word line text word fields named true is ends cuts e =
    let proxy = (bytes_eq-Decides word (codes "PROXY")).0 is in
    let found = (cut-first 32 text word fields).0 cuts in
    let all : line ≡ codes "PROXY " ++ (fields ++ 13 ∷ []) =
    ends_with line text (nat_eq (slice_index line (length line - 1)) 13) refl ends ∙ ap (λ t. t ++ 13 ∷ []) (found.0 ∙ ap (λ w. w ++ 32 ∷ fields) proxy) in
    whole line fields named all (named_behind fields named e)

is_named : (line : List ℕ) (named : NamedClient) → named_in line ≡ Some named → Names line named
unfolding named_in
is_named line named e =
    option_and_then_some _ (line_without_return line) named e (λ text ends e1.
    option_and_then_some _ (cut 32 text) named e1 (λ word cuts e2.
    with_word line text word.0 word.1 named (bytes_eq word.0 (codes "PROXY")) refl ends cuts e2))

reads_line : (line fields : List ℕ) → line ≡ codes "PROXY " ++ (fields ++ 13 ∷ []) → named_in line ≡ client_in_fields fields
unfolding named_in
reads_line line fields is = let ends : line_without_return line ≡ Some (codes "PROXY " ++ fields) = ap line_without_return is ∙ has_end (codes "PROXY " ++ fields) in rw ends refl

reads_names : (line : List ℕ) (named : NamedClient) → Names line named → named_in line ≡ Some named
reads_names line _ (ByTcp family fields peer f is) =
    reads_line line (family_word family ++ 32 ∷ fields) (is ∙ ap (λ t. codes "PROXY " ++ t) (sym (append_assoc (family_word family) (32 ∷ fields) (13 ∷ []))))
    ∙ reads_family family fields peer f
reads_names line _ (ByNone ignored i is) = reads_line line (codes "UNKNOWN" ++ ignored) is ∙ reads_none ignored i

pub names : (line : List ℕ) (named : NamedClient) → (named_in line ≡ Some named → Names line named) × (Names line named → named_in line ≡ Some named)
names line named = (is_named line named, reads_names line named)
