-- A text names a peer exactly where it is how a report writes the peer's address.
use Rattle.std.proofs.Common.{◌≡◌, ◌↔◌, ℕ, ◌+◌, ◌*◌, ◌/◌, ◌%◌, ◌^◌, ◌<◌, ◌≤◌, ◌==◌, true, false, cond, Option, Some, None, unwrap_or, List, [], ◌∷◌, ◌++◌, append_assoc, inl, inr, refl, ap, ◌∙◌, sym, arith}
use Rattle.std.specs.Fmt.{decimal}
use Rattle.std.proofs.lemmas.Bool.{cases_Bool}
use Rattle.std.proofs.lemmas.Bool.Decides.{nat_tests}
use Rattle.bac_values.specs.Address.{PeerData}
use Rattle.script_lines.specs.Number.{unsigned_of}
use Rattle.script_lines.specs.Report.{address_text}
use Rattle.script_lines.specs.SessionLine.{◌>>=◌, before, behind, colon, dot, ip_of, port_of, peer_of, IsNamedPeer}
use Rattle.script_lines.proofs.Marks.{lacks, lacks_both, decimal_lacks, parted, has_mark, nothing_read, number_read, number_back, from_chain}
use Rattle.script_lines.proofs.Parts.{four_read}

-- four numbers with dots between them
abbrev four_text : ℕ → ℕ → ℕ → ℕ → List ℕ
four_text p q r s = decimal p ++ dot ∷ (decimal q ++ dot ∷ (decimal r ++ dot ∷ decimal s))

abbrev ip_number : ℕ → ℕ → ℕ → ℕ → ℕ
ip_number p q r s = p * 16777216 + q * 65536 + r * 256 + s

joined : (n : ℕ) (text front rest rest' : List ℕ) → text ≡ front ++ dot ∷ rest → front ≡ decimal n → rest ≡ rest' → text ≡ decimal n ++ dot ∷ rest'
joined n text front rest rest' e f g = e ∙ (ap (λ xs. xs ++ dot ∷ rest) f ∙ ap (λ xs. decimal n ++ dot ∷ xs) g)

-- what an address of IPv4 says of its text
record IsIp (text : List ℕ) (ip : ℕ) : Type 0 where
  p : ℕ
  q : ℕ
  r : ℕ
  s : ℕ
  octets : (p ≤ 255) × (q ≤ 255) × (r ≤ 255) × (s ≤ 255)
  number : ip ≡ ip_number p q r s
  written : text ≡ four_text p q r s

ip_read : (text : List ℕ) (ip : ℕ) → ip_of text ≡ Some ip → IsIp text ip
ip_read text ip h =
    let t1 = behind dot text in
    let t2 = behind dot t1 in
    let t3 = behind dot t2 in
    let first = from_chain (unsigned_of 255 (before dot text)) (λ a. unsigned_of 255 (before dot t1) >>= (λ b. unsigned_of 255 (before dot t2) >>= (λ c. unsigned_of 255 t3 >>= (λ d. Some (ip_number a b c d))))) ip h in
    let a = first.0 in
    let second = from_chain (unsigned_of 255 (before dot t1)) (λ b. unsigned_of 255 (before dot t2) >>= (λ c. unsigned_of 255 t3 >>= (λ d. Some (ip_number a b c d)))) ip first.2 in
    let b = second.0 in
    let third = from_chain (unsigned_of 255 (before dot t2)) (λ c. unsigned_of 255 t3 >>= (λ d. Some (ip_number a b c d))) ip second.2 in
    let c = third.0 in
    let fourth = from_chain (unsigned_of 255 t3) (λ d. Some (ip_number a b c d)) ip third.2 in
    let d = fourth.0 in
    let small : 255 < 2 ^ 64 = omega arith in
    let read_a = number_read 255 a (before dot text) small first.1 in
    let read_b = number_read 255 b (before dot t1) small second.1 in
    let read_c = number_read 255 c (before dot t2) small third.1 in
    let read_d = number_read 255 d t3 small fourth.1 in
    let mark_a = has_mark dot text (λ e. nothing_read 255 b (before dot t1) second.1 (ap (before dot) e)) in
    let mark_b = has_mark dot t1 (λ e. nothing_read 255 c (before dot t2) third.1 (ap (before dot) e)) in
    let mark_c = has_mark dot t2 (λ e. nothing_read 255 d t3 fourth.1 e) in
    let is : ip ≡ ip_number a b c d = cc (fourth.2) in
    record {
      p = a;
      q = b;
      r = c;
      s = d;
      octets = (read_a.1, read_b.1, read_c.1, read_d.1);
      number = is;
      written = joined a text (before dot text) t1 (decimal b ++ dot ∷ (decimal c ++ dot ∷ decimal d)) mark_a read_a.0
          (joined b t1 (before dot t1) t2 (decimal c ++ dot ∷ decimal d) mark_b read_b.0
          (joined c t2 (before dot t2) t3 (decimal d) mark_c read_c.0 read_d.0));
    }

ip_back : (p q r s : ℕ) → p ≤ 255 → q ≤ 255 → r ≤ 255 → s ≤ 255 → ip_of (four_text p q r s) ≡ Some (ip_number p q r s)
ip_back p q r s hp hq hr hs =
    let t3 = decimal s in
    let t2 = decimal r ++ dot ∷ t3 in
    let t1 = decimal q ++ dot ∷ t2 in
    let text = decimal p ++ dot ∷ t1 in
    let small : 255 < 2 ^ 64 = omega arith in
    let part_p = parted dot (decimal p) t1 (decimal_lacks dot p refl (omega arith)) in
    let part_q = parted dot (decimal q) t2 (decimal_lacks dot q refl (omega arith)) in
    let part_r = parted dot (decimal r) t3 (decimal_lacks dot r refl (omega arith)) in
    let rest1 : behind dot text ≡ t1 = part_p.1 in
    let rest2 : behind dot (behind dot text) ≡ t2 = ap (behind dot) rest1 ∙ part_q.1 in
    let rest3 : behind dot (behind dot (behind dot text)) ≡ t3 = ap (behind dot) rest2 ∙ part_r.1 in
    let first = number_back 255 p (before dot text) small part_p.0 hp in
    let second = number_back 255 q (before dot (behind dot text)) small (ap (before dot) rest1 ∙ part_q.0) hq in
    let third = number_back 255 r (before dot (behind dot (behind dot text))) small (ap (before dot) rest2 ∙ part_r.0) hr in
    let fourth = number_back 255 s (behind dot (behind dot (behind dot text))) small rest3 hs in
    sym (four_read _ _ _ _ p q r s first second third fourth)

dotted_lacks : (p q r s : ℕ) → p ≤ 255 → q ≤ 255 → r ≤ 255 → s ≤ 255 → lacks colon (four_text p q r s) ≡ true
dotted_lacks p q r s hp hq hr hs =
    lacks_both colon (decimal p) _ (decimal_lacks colon p refl (omega arith))
    (lacks_both colon (decimal q) _ (decimal_lacks colon q refl (omega arith))
    (lacks_both colon (decimal r) _ (decimal_lacks colon r refl (omega arith)) (decimal_lacks colon s refl (omega arith))))

same_four : (p q r s p' q' r' s' : ℕ) → p ≡ p' → q ≡ q' → r ≡ r' → s ≡ s' → four_text p q r s ≡ four_text p' q' r' s'
same_four p q r s p' q' r' s' hp hq hr hs = rw (hp, hq, hr, hs) refl

no_port : (text : List ℕ) (port : ℕ) → port_of text ≡ Some port → text ≡ [] → ⊥
no_port text port h e = let wrong : None ≡ Some port = rw e at h in cc

-- a peer's address, by the four octets of IPv4
written_address : (peer : PeerData) → four_text (peer.ip / 16777216) (peer.ip / 65536 % 256) (peer.ip / 256 % 256) (peer.ip % 256) ++ colon ∷ decimal peer.port ≡ address_text peer
written_address peer = simp append_assoc

port_read : (text : List ℕ) (port : ℕ) → port_of text ≡ Some port → (text ≡ decimal port) × (1 ≤ port) × (port ≤ 65535)
port_read text port h =
    let first = from_chain (unsigned_of 65535 text) (λ n. cond (n == 0) None (Some n)) port h in
    let n = first.0 in
    let read = number_read 65535 n text (omega arith) first.1 in
    elim (cases_Bool (n == 0)) [
      | inl none ↦ let wrong : None ≡ Some port = rw none at first.2 in absurd cc
      | inr some ↦
          let here : Some n ≡ Some port = rw some at first.2 in
          let same : n ≡ port = cc in
          (read.0 ∙ ap decimal same, grind (arith, nat_tests), omega (arith, read.1))
    ]

port_back : (text : List ℕ) (port : ℕ) → text ≡ decimal port → 1 ≤ port → port ≤ 65535 → port_of text ≡ Some port
port_back text port e low high =
    let some : (port == 0) ≡ false = grind (arith, nat_tests) in
    rw (number_back 65535 port text (omega arith) e high, some) refl

peer_read : (text : List ℕ) (peer : PeerData) → peer_of text ≡ Some peer → (text ≡ address_text peer) × IsNamedPeer peer
peer_read text peer h =
    let last : ℕ → ℕ → Option PeerData = λ ip port. Some (record { ip = ip; port = port; net = 0; mac = [] }) in
    let first = from_chain (ip_of (before colon text)) (λ ip. port_of (behind colon text) >>= last ip) peer h in
    let ip = first.0 in
    let second = from_chain (port_of (behind colon text)) (last ip) peer first.2 in
    let port = second.0 in
    let is_ip : ip ≡ peer.ip = ap (λ o. (unwrap_or o peer).ip) second.2 in
    let is_port : port ≡ peer.port = ap (λ o. (unwrap_or o peer).port) second.2 in
    let is_net : 0 ≡ peer.net = ap (λ o. (unwrap_or o peer).net) second.2 in
    let is_mac : [] ≡ peer.mac = ap (λ o. (unwrap_or o peer).mac) second.2 in
    let read = port_read (behind colon text) port second.1 in
    let dots = ip_read (before colon text) ip first.1 in
    let o = dots.octets in
    let n = dots.number in
    let p : dots.p ≡ peer.ip / 16777216 = omega (arith, o.0, o.1, o.2, o.3, n, is_ip) in
    let q : dots.q ≡ peer.ip / 65536 % 256 = omega (arith, o.0, o.1, o.2, o.3, n, is_ip) in
    let r : dots.r ≡ peer.ip / 256 % 256 = omega (arith, o.0, o.1, o.2, o.3, n, is_ip) in
    let s : dots.s ≡ peer.ip % 256 = omega (arith, o.0, o.1, o.2, o.3, n, is_ip) in
    let mark = has_mark colon text (λ e. no_port (behind colon text) port second.1 e) in
    let front : before colon text ≡ four_text (peer.ip / 16777216) (peer.ip / 65536 % 256) (peer.ip / 256 % 256) (peer.ip % 256) = dots.written ∙ same_four dots.p dots.q dots.r dots.s _ _ _ _ p q r s in (
      mark ∙ (ap (λ xs. xs ++ colon ∷ behind colon text) front ∙ (ap (λ xs. four_text (peer.ip / 16777216) (peer.ip / 65536 % 256) (peer.ip / 256 % 256) (peer.ip % 256) ++ colon ∷ xs) (read.0 ∙ ap decimal is_port) ∙ written_address peer)),
      record {
        ip = omega (arith, o.0, o.1, o.2, o.3, n, is_ip);
        port = (omega (arith, read.1, is_port), omega (arith, read.2, is_port));
        net = sym is_net;
        mac = sym is_mac;
      },
    )

whole_ip : (ip : ℕ) → ip < 2 ^ 32 → ip_number (ip / 16777216) (ip / 65536 % 256) (ip / 256 % 256) (ip % 256) ≡ ip
whole_ip ip small = omega arith

first_octet : (ip : ℕ) → ip < 2 ^ 32 → ip / 16777216 ≤ 255
first_octet ip small = omega arith

next_octet : (n : ℕ) → n % 256 ≤ 255
next_octet n = omega arith

peer_back : (text : List ℕ) (peer : PeerData) → text ≡ address_text peer → IsNamedPeer peer → peer_of text ≡ Some peer
peer_back text peer e is =
    let p = peer.ip / 16777216 in
    let q = peer.ip / 65536 % 256 in
    let r = peer.ip / 256 % 256 in
    let s = peer.ip % 256 in
    let hp = first_octet peer.ip is.ip in
    let hq = next_octet (peer.ip / 65536) in
    let hr = next_octet (peer.ip / 256) in
    let hs = next_octet peer.ip in
    let written = e ∙ sym (written_address peer) in
    let parts = parted colon (four_text p q r s) (decimal peer.port) (dotted_lacks p q r s hp hq hr hs) in
    let front : before colon text ≡ four_text p q r s = ap (before colon) written ∙ parts.0 in
    let port : behind colon text ≡ decimal peer.port = ap (behind colon) written ∙ parts.1 in
    let ip : ip_of (before colon text) ≡ Some peer.ip = ap ip_of front ∙ (ip_back p q r s hp hq hr hs ∙ ap Some (whole_ip peer.ip is.ip)) in
    rw (ip, port_back (behind colon text) peer.port port is.port.0 is.port.1, sym is.net, sym is.mac) refl

-- the peer that is named
pub named : (peer : PeerData) (text : List ℕ) (result : Option PeerData) → result ≡ peer_of text → (result ≡ Some peer) ↔ ((text ≡ address_text peer) × IsNamedPeer peer)
named peer text result value = (λ h. peer_read text peer (sym value ∙ h), λ h. value ∙ peer_back text peer h.0 h.1)
