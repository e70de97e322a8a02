-- The certificates of a leg as they are borrowed.
use Rattle.std.specs.Prelude.{List}
use Rattle.lp_definitions.specs.declared.cert.Cert.{Cert}
use Rattle.lp_cert.specs.declared.cert_list.KeptRef.{KeptRef}
use Rattle.lp_cert.specs.declared.cert_list.KeptRef.TheVariants as borrowed
use Rattle.lp_cert.specs.inside.Bare.{bare_certs}

abbrev pub certs_borrowed : KeptRef → List Cert
certs_borrowed (borrowed.Bare head groups) = bare_certs head groups.now
certs_borrowed (borrowed.Many certs) = certs.now
